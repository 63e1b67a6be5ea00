use Rattle.std.specs.Prelude.{ℕ, ◌+◌, ◌-◌, ◌^◌, min, Bool, List, [], ◌∷◌, ◌++◌, position, slice_get, slice_set, Option, Some, None}
use Rattle.std.specs.Str.{bytes_eq}

-- What was dropped, counted by the name of the reason.

-- how often that was, and the EUI of the last one, if it had one
pub record Count : Type 0 where
  pub name : List ℕ
  pub count : ℕ
  pub last : Option (List ℕ)

abbrev pub is_named : List ℕ → Count → Bool
is_named name c = bytes_eq c.name name

-- one more was dropped; a count stays at 2^64 - 1
abbrev pub one_more : Option (List ℕ) → Count → Count
one_more eui c = record c { count = min (c.count + 1) (2 ^ 64 - 1); last = eui }

abbrev pub first_one : List ℕ → Option (List ℕ) → Count
first_one name eui = record { name = name; count = 1; last = eui }

abbrev pub counted_in : List Count → ℕ → Option (List ℕ) → Option Count → List Count
counted_in counts place eui None = counts
counted_in counts place eui (Some c) = slice_set counts place (one_more eui c)

abbrev pub counted_at : List Count → List ℕ → Option (List ℕ) → Option ℕ → List Count
counted_at counts name eui None = counts ++ first_one name eui ∷ []
counted_at counts name eui (Some place) = counted_in counts place eui (slice_get counts place)

-- the counts after one was dropped for the reason with this name; names stand in the order in which they came first
abbrev pub dropped_by : List ℕ → Option (List ℕ) → List Count → List Count
dropped_by name eui counts = counted_at counts name eui (position (is_named name) counts)
