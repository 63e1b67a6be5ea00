use Rattle.std.specs.Prelude.{ℕ, ◌≡◌, ◌+◌, ◌≤◌, nat_lt, nat_le, if◌then◌else◌, Bool, true, false, List, [], ◌∷◌}
use Rattle.std.specs.Prelude.{Option, Some, None, filter, find, ⊤}
use Rattle.std.specs.List.Sorted.{IsPartitionPoint}
use Rattle.std.specs.Coded.{×_prop, Unit-prop, le_prop}

-- Words for a list sorted by a key that no two members share.

-- the last member
abbrev pub last : {X : Type 0} → List X → Option X
last [] = None
last (x ∷ []) = Some x
last (x ∷ y ∷ ys) = last (y ∷ ys)

-- where a test passes before a place and fails from it on, the list parts there
abbrev pub IsCut : {X : Type 0} → (X → Bool) → List X → ℕ → Type 0
IsCut test xs i = IsPartitionPoint (λ y. test y ≡ true) (λ y. test y ≡ false) xs i

module _ {X : Type 0} (key : X → ℕ) where
  -- the keys rise from `low` on, and no two are the same
  abbrev pub RisesFrom : ℕ → List X → Type 0
  RisesFrom low [] = ⊤
  RisesFrom low (x ∷ xs) = (low ≤ key x) × RisesFrom (key x + 1) xs

  pub RisesFrom-prop : (low : ℕ) (xs : List X) → IsProp (RisesFrom low xs)
  RisesFrom-prop low [] = Unit-prop
  RisesFrom-prop low (x ∷ xs) = ×_prop le_prop (RisesFrom-prop (key x + 1) xs)

  -- the list with x put in front of the first member whose key is not below its own
  abbrev pub place_by : X → List X → List X
  place_by x [] = x ∷ []
  place_by x (y ∷ ys) = if nat_lt (key y) (key x) then y ∷ place_by x ys else x ∷ y ∷ ys

  -- the members in the order of their keys: one after another is put in its place
  abbrev pub sort_by : List X → List X
  sort_by [] = []
  sort_by (x ∷ xs) = place_by x (sort_by xs)

  -- the members with keys below the limit
  abbrev pub below : ℕ → List X → List X
  below limit xs = filter (λ x. nat_lt (key x) limit) xs

  -- the members with keys not below the limit
  abbrev pub rest_from : ℕ → List X → List X
  rest_from limit xs = filter (λ x. nat_le limit (key x)) xs

  -- the member with the greatest key below the limit, of a sorted list
  abbrev pub last_below : ℕ → List X → Option X
  last_below limit xs = last (below limit xs)

  -- the member with the least key not below the limit, of a sorted list
  abbrev pub first_from : ℕ → List X → Option X
  first_from limit xs = find (λ x. nat_le limit (key x)) xs
