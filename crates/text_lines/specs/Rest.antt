-- What is left of an input whose bytes are known.
use Rattle.std.specs.Prelude.{◌≡◌, ℕ, ◌+◌, ◌-◌, min, List, [], ◌++◌, length, take, Option, None, Some}
use Rattle.text_lines.specs.Ahead.{most_input}

-- the bytes that are left, or none where they are not known
abbrev pub rest_of : Option (List ℕ) → List ℕ
rest_of None = []
rest_of (Some rest) = rest

-- how many of the bytes are gone
abbrev pub gone_of : List ℕ → Option (List ℕ) → ℕ
gone_of bytes left = length bytes - length (rest_of left)

-- what is left is known, and is the end of the bytes; those before it were counted, up to more than 2^28 of them
pub record IsRest (bytes : List ℕ) (left : Option (List ℕ)) (taken : ℕ) : Type 0 where
  pub known : left ≡ Some (rest_of left)
  pub ends : bytes ≡ take (gone_of bytes left) bytes ++ rest_of left
  pub counted : min taken (most_input + 1) ≡ min (gone_of bytes left) (most_input + 1)
