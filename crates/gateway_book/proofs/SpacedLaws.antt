use Rattle.std.specs.Prelude.{ℕ, ◌≡◌, ◌≢◌, ◌+◌, ◌<◌, ◌≤◌, nat_lt, Bool, true, false, List, [], ◌∷◌, Option, Some, None, map}
use Rattle.std.specs.Prelude.{filter, find, cond, All}
use Rattle.std.specs.Option.{option_map}
use Rattle.std.proofs.Common.{refl, ap, arith}
use Rattle.std.proofs.lemmas.Bool.{ltb-true, ltb-false}
use Rattle.std.proofs.lemmas.Bool.Decides.{nat_tests}
use Rattle.std.proofs.lemmas.List.Elements.{All-cons}
use Rattle.resv_list.specs.Sorted.{RisesFrom, place_by}
use Rattle.gateway_book.specs.Least.{least, at_most}
use Rattle.gateway_book.specs.Disjoint.{overlaps}
use Rattle.gateway_book.specs.Spaced.{SpacedFrom}

module _ {X : Type 0} (key : X → ℕ) where
  -- what a test finds in a rising list lies above the lower bound
  find_above_by : (test : X → Bool) (low : ℕ) (x y : X) (xs : List X) (t : Bool) → RisesFrom key low (y ∷ xs)
      → cond t (Some y) (find test xs) ≡ Some x → (find test xs ≡ Some x → key y + 1 ≤ key x) → low ≤ key x
  find_above_by test low x y xs true r e rest = let k : key y ≡ key x = ap key (cc) in omega arith
  find_above_by test low x y xs false r e rest = omega (arith, rest e)

  pub find_above : (test : X → Bool) (low : ℕ) (x : X) (xs : List X) → RisesFrom key low xs → find test xs ≡ Some x → low ≤ key x
  find_above test low x [] r e = absurd (cc)
  find_above test low x (y ∷ ys) r e = find_above_by test low x y ys (test y) r e (find_above test (key y + 1) x ys r.1)

  least_by : (test : X → Bool) (low : ℕ) (x : X) (xs : List X) (o : Option X) → find test xs ≡ o → RisesFrom key (key x + 1) xs
      → least (map key (filter test xs)) ≡ option_map key o → at_most (key x) (least (map key (filter test xs))) ≡ key x
  least_by test low x xs None f r e = rw e refl
  least_by test low x xs (Some y) f r e = let h = find_above test (key x + 1) y xs r f in rw e (omega arith)

  first_by : (test : X → Bool) (low : ℕ) (x : X) (xs : List X) (t : Bool) → RisesFrom key low (x ∷ xs)
      → least (map key (filter test xs)) ≡ option_map key (find test xs)
      → least (map key (cond t (x ∷ filter test xs) (filter test xs))) ≡ option_map key (cond t (Some x) (find test xs))
  first_by test low x xs true r e = ap Some (least_by test low x xs (find test xs) refl r.1 e)
  first_by test low x xs false r e = e

  -- the first member of a rising list that passes has the least key of those that do
  pub least-find : (test : X → Bool) (low : ℕ) (xs : List X) → RisesFrom key low xs
      → least (map key (filter test xs)) ≡ option_map key (find test xs)
  least-find test low [] r = refl
  least-find test low (x ∷ xs) r = first_by test low x xs (test x) r (least-find test (key x + 1) xs r.1)

module _ {X : Type 0} (key end : X → ℕ) (positive : (x : X) → key x < end x) where
  pub SpacedFrom-lower : (low high : ℕ) (xs : List X) → low ≤ high → SpacedFrom key end high xs → SpacedFrom key end low xs
  SpacedFrom-lower low high [] h s = tt
  SpacedFrom-lower low high (x ∷ xs) h s = (omega arith, s.1)

  spaced_placed : (low : ℕ) (x y : X) (ys : List X) (t : Bool) → nat_lt (key y) (key x) ≡ t → low ≤ key x
      → overlaps key end (key x) (end x) y ≡ false → SpacedFrom key end low (y ∷ ys)
      → (end y ≤ key x → SpacedFrom key end (end y) (place_by key x ys))
      → SpacedFrom key end low (cond t (y ∷ place_by key x ys) (x ∷ y ∷ ys))
  spaced_placed low x y ys true e h o s rest =
      let p = positive x in
      let q = positive y in
      let k : key y < key x = ltb-true (key y) (key x) e in
      (s.0, rest (grind (arith, nat_tests)))
  spaced_placed low x y ys false e h o s rest =
      let p = positive x in
      let q = positive y in
      let k : key x ≤ key y = ltb-false (key y) (key x) e in
      (h, (grind (arith, nat_tests), s.1))

  clear_by : (test : X → Bool) (y : X) (ys : List X) (t : Bool) → cond t (Some y) (find test ys) ≡ None
      → (t ≡ false) × (find test ys ≡ None)
  clear_by test y ys true e = absurd (cc)
  clear_by test y ys false e = (refl, e)

  -- a member that overlaps none keeps the list spaced
  pub SpacedFrom-place_by : (low : ℕ) (x : X) (xs : List X) → low ≤ key x → find (overlaps key end (key x) (end x)) xs ≡ None
      → SpacedFrom key end low xs → SpacedFrom key end low (place_by key x xs)
  SpacedFrom-place_by low x [] h f s = (h, tt)
  SpacedFrom-place_by low x (y ∷ ys) h f s =
      let c = clear_by (overlaps key end (key x) (end x)) y ys (overlaps key end (key x) (end x) y) f in
      spaced_placed low x y ys (nat_lt (key y) (key x)) refl h c.0 s (λ g. SpacedFrom-place_by (end y) x ys g c.1 s.1)

  -- where no member overlaps, none begins at that very moment
  pub free_of_clear : (from to : ℕ) (xs : List X) → from < to → find (overlaps key end from to) xs ≡ None
      → All (λ k. k ≢ from) (map key xs)
  free_of_clear from to [] h f = λ k d l. absurd (omega arith)
  free_of_clear from to (y ∷ ys) h f =
      let c = clear_by (overlaps key end from to) y ys (overlaps key end from to y) f in
      let o : overlaps key end from to y ≡ false = c.0 in
      let p = positive y in
      All-cons (λ k. k ≢ from) (key y) (map key ys) (λ e. grind (arith, nat_tests)) (free_of_clear from to ys h c.1)
