use Rattle.std.specs.Prelude.{ℕ, ◌≡◌, ◌≢◌, ◌+◌, ◌<◌, ◌≤◌, nat_lt, Bool, true, false, not, List, [], ◌∷◌, length, filter, find}
use Rattle.std.specs.Prelude.{All, map, cond, ◌==◌, None}
use Rattle.std.proofs.Common.{refl, arith, zero, suc}
use Rattle.std.proofs.lemmas.Bool.{ltb-true, ltb-false}
use Rattle.std.proofs.lemmas.Bool.Decides.{nat_tests}
use Rattle.resv_list.specs.Sorted.{RisesFrom, place_by}

module _ {X : Type 0} (key : X → ℕ) where
  -- a list that rises from one moment rises from an earlier one
  pub RisesFrom-lower : (low high : ℕ) (xs : List X) → low ≤ high → RisesFrom key high xs → RisesFrom key low xs
  RisesFrom-lower low high [] h r = tt
  RisesFrom-lower low high (x ∷ xs) h r = (omega arith, r.1)

  grown : (x y : X) (ys : List X) (t : Bool) → length (place_by key x ys) ≡ length ys + 1
      → length (cond t (y ∷ place_by key x ys) (x ∷ y ∷ ys)) ≡ length (y ∷ ys) + 1
  grown x y ys true h = omega arith
  grown x y ys false h = omega arith

  pub length-place_by : (x : X) (xs : List X) → length (place_by key x xs) ≡ length xs + 1
  length-place_by x [] = refl
  length-place_by x (y ∷ ys) = grown x y ys (nat_lt (key y) (key x)) (length-place_by x ys)

  rises_placed : (low : ℕ) (x y : X) (ys : List X) (t : Bool) → nat_lt (key y) (key x) ≡ t → low ≤ key x → key y ≢ key x
      → RisesFrom key low (y ∷ ys) → (key y + 1 ≤ key x → RisesFrom key (key y + 1) (place_by key x ys))
      → RisesFrom key low (cond t (y ∷ place_by key x ys) (x ∷ y ∷ ys))
  rises_placed low x y ys true e h n r rest = (r.0, rest (omega (arith, ltb-true (key y) (key x) e)))
  rises_placed low x y ys false e h n r rest = (h, (omega (arith, ltb-false (key y) (key x) e), r.1))

  -- a member whose key is new keeps the list rising
  pub RisesFrom-place_by : (low : ℕ) (x : X) (xs : List X) → low ≤ key x → All (λ k. k ≢ key x) (map key xs)
      → RisesFrom key low xs → RisesFrom key low (place_by key x xs)
  RisesFrom-place_by low x [] h n r = (h, tt)
  RisesFrom-place_by low x (y ∷ ys) h n r =
      rises_placed low x y ys (nat_lt (key y) (key x)) refl h (n zero 0 (omega arith)) r
      (λ g. RisesFrom-place_by (key y + 1) x ys g (λ k d l. n (suc k) d (omega arith)) r.1)

-- What stands at one key of a list that rises: one member at most.

module _ {X : Type 0} (key : X → ℕ) where
  pub at_none : (low at : ℕ) (xs : List X) → at < low → RisesFrom key low xs
      → (find (λ x. key x == at) xs ≡ None) × (filter (λ x. not (key x == at)) xs ≡ xs)
  at_none low at [] h r = (refl, refl)
  at_none low at (x ∷ xs) h r =
      let e : (key x == at) ≡ false = grind (arith, nat_tests) in
      let i = at_none (key x + 1) at xs (omega arith) r.1 in
      (rw e i.0, rw (e, i.1) refl)

module _ {X : Type 0} (key : X → ℕ) where
  filtered_by : (test : X → Bool) (low : ℕ) (x : X) (xs : List X) (t : Bool) → RisesFrom key low (x ∷ xs)
      → RisesFrom key (key x + 1) (filter test xs) → RisesFrom key low (cond t (x ∷ filter test xs) (filter test xs))
  filtered_by test low x xs true r f = (r.0, f)
  filtered_by test low x xs false r f = RisesFrom-lower key low (key x + 1) (filter test xs) (omega arith) f

  -- what a test leaves of a rising list rises
  pub RisesFrom-filter : (test : X → Bool) (low : ℕ) (xs : List X) → RisesFrom key low xs → RisesFrom key low (filter test xs)
  RisesFrom-filter test low [] r = tt
  RisesFrom-filter test low (x ∷ xs) r = filtered_by test low x xs (test x) r (RisesFrom-filter test (key x + 1) xs r.1)
