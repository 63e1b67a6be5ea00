use Rattle.std.specs.Prelude.{ℕ, ◌<◌, ◌≤◌, List, length}
use Rattle.std.specs.List.{AllWithin}

-- Items by number, after this project's profile.

-- those with lesser numbers than n stand before this place, and no others
pub record IsEndOfLesser {X : Type 0} (number_of : X → ℕ) (n : ℕ) (xs : List X) (at : ℕ) : Type 0 where
  pub within : at ≤ length xs
  pub lesser : AllWithin (λ x. number_of x < n) xs 0 at
  pub others : AllWithin (λ x. n ≤ number_of x) xs at (length xs)
