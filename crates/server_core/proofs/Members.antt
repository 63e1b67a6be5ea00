-- Members of lists that are sorted by a key, or of which no two share a key.
use Rattle.server_core.proofs.Words.{arith, All-cons, All-head, All-tail, All, AllPairs, List, Some, [], cond, false}
use Rattle.server_core.proofs.Words.{nat_lt, slice_get, true, ℕ, ◌+◌, ◌∷◌, ◌≡◌, ◌≢◌, ◌≤◌, RisesFrom, place_by, numbered}
use Rattle.server_core.proofs.Words.{map, map_there, get_or_from_slice_get, slice_get_within}

module _ {X : Type 0} (key : X → ℕ) where
  -- what holds of all members holds of all with one more in its place
  pub All-place_by : (P : X → Type 0) (x : X) (xs : List X) → P x → All P xs → All P (place_by key x xs)
  All-place_by P x [] p h = All-cons P x [] p h
  All-place_by P x (y ∷ ys) p h = elim (nat_lt (key y) (key x)) as (λ t. All P (cond t (y ∷ place_by key x ys) (x ∷ y ∷ ys))) [
    | true ↦ All-cons P y (place_by key x ys) (All-head P y ys h) (All-place_by P x ys p (All-tail P y ys h))
    | false ↦ All-cons P x (y ∷ ys) p h
  ]

  -- no two members of a rising list have one key
  rises_above : (low : ℕ) (xs : List X) (k : ℕ) (x : X) → RisesFrom key low xs → slice_get xs k ≡ Some x → low ≤ key x
  rises_above low [] k x r e = absurd (cc)
  rises_above low (y ∷ ys) k x r e = grind (arith, rises_above (key y + 1) ys)

  pub rises_once : (low : ℕ) (xs : List X) (i j : ℕ) (a b : X) → RisesFrom key low xs → slice_get xs i ≡ Some a
      → slice_get xs j ≡ Some b → key a ≡ key b → i ≡ j
  rises_once low [] i j a b r e f q = absurd (cc)
  rises_once low (x ∷ xs) i j a b r e f q = grind (arith, rises_above (key x + 1) xs, rises_once (key x + 1) xs)

-- nor of a list whose members show different keys
pub apart_once : {X Y : Type 0} (show : X → Y) (key : Y → ℕ) (xs : List X) (ys : List Y) → map show xs ≡ ys
    → AllPairs (λ x y. key x ≢ key y) ys → (i j : ℕ) (a b : X) → slice_get xs i ≡ Some a → slice_get xs j ≡ Some b
    → key (show a) ≡ key (show b) → i ≡ j
apart_once show key xs ys e r i j a b f g q =
    let x : slice_get ys i ≡ Some (show a) = rw (← e) (map_there show xs i a f) in
    let y : slice_get ys j ≡ Some (show b) = rw (← e) (map_there show xs j b g) in
    grind (
      arith,
      r i j (show b),
      r j i (show a),
      get_or_from_slice_get ys i (show a) (show a) x,
      get_or_from_slice_get ys i (show a) (show b) x,
      get_or_from_slice_get ys j (show b) (show a) y,
      get_or_from_slice_get ys j (show b) (show b) y,
      slice_get_within ys i (show a) x,
      slice_get_within ys j (show b) y,
    )

-- no list at all has a member
pub none_numbered : {X : Type 0} (n : ℕ) (x : X) → numbered n [] ≡ Some x → ⊥
none_numbered n x e = grind arith
