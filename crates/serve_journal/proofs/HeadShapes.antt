use Rattle.std.proofs.Common.{◌≡◌, ◌<◌, ℕ, List, [], ◌∷◌, length, map, take, None, refl, arith}
use Rattle.serve_journal.specs.Reading.{version_in}

-- How many words the first line has.

pub version_in-fewer : {X : Type 0} (f : X → List ℕ) (words : List X) → length words < 3 → version_in (map f words) ≡ None
version_in-fewer f [] h = refl
version_in-fewer f (a ∷ []) h = refl
version_in-fewer f (a ∷ b ∷ []) h = refl
version_in-fewer f (a ∷ b ∷ c ∷ more) h = absurd (omega arith)

pub version_in-more : {X : Type 0} (f : X → List ℕ) (words : List X) → 3 < length words → version_in (map f words) ≡ None
version_in-more f [] h = absurd (omega arith)
version_in-more f (a ∷ []) h = absurd (omega arith)
version_in-more f (a ∷ b ∷ []) h = absurd (omega arith)
version_in-more f (a ∷ b ∷ c ∷ []) h = absurd (omega arith)
version_in-more f (a ∷ b ∷ c ∷ d ∷ more) h = refl

-- seven words, or all, tell the version
pub version_in-take : (words : List (List ℕ)) → version_in (take 7 words) ≡ version_in words
version_in-take [] = refl
version_in-take (a ∷ []) = refl
version_in-take (a ∷ b ∷ []) = refl
version_in-take (a ∷ b ∷ c ∷ []) = refl
version_in-take (a ∷ b ∷ c ∷ d ∷ more) = refl
