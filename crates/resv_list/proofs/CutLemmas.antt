use Rattle.std.specs.Prelude.{ℕ, ◌≡◌, ◌≢◌, ◌+◌, ◌<◌, ◌≤◌, nat_lt, Bool, true, false, not, List, [], ◌∷◌, ◌++◌, length, Some}
use Rattle.std.specs.Prelude.{filter, find, take, drop, ◌-◌, slice_get, ◌==◌, remove, None}
use Rattle.std.specs.List.Sorted.{IsNonDecreasingBy}
use Rattle.std.proofs.Common.{refl, sym, ap, ◌∙◌, arith, zero, suc, get_or}
use Rattle.std.proofs.lemmas.Bool.{ltb-true, ltb-false}
use Rattle.std.proofs.lemmas.Bool.Decides.{nat_tests}
use Rattle.std.proofs.lemmas.Option.{slice_get_within}
use Rattle.resv_list.specs.Sorted.{IsCut, last, RisesFrom, place_by}
use Rattle.resv_list.proofs.SortedLaws.{at_none}

-- A list that rises, cut in two where a test no longer passes.

module _ {X : Type 0} (key : X → ℕ) where
  -- every key of a rising list is at least the lower bound
  pub RisesFrom-get : (low : ℕ) (xs : List X) (k : ℕ) (d : X) → RisesFrom key low xs → k < length xs → low ≤ key (get_or xs k d)
  RisesFrom-get low [] k d r h = absurd (omega arith)
  RisesFrom-get low (x ∷ xs) zero d r h = r.0
  RisesFrom-get low (x ∷ xs) (suc k) d r h = let i = RisesFrom-get (key x + 1) xs k d r.1 (omega arith) in omega arith

  pub RisesFrom-IsNonDecreasingBy : (low : ℕ) (xs : List X) → RisesFrom key low xs → IsNonDecreasingBy key xs
  RisesFrom-IsNonDecreasingBy low [] r i j d h g = absurd (omega arith)
  RisesFrom-IsNonDecreasingBy low (x ∷ xs) r zero zero d h g = omega arith
  RisesFrom-IsNonDecreasingBy low (x ∷ xs) r zero (suc j) d h g = let i = RisesFrom-get (key x + 1) xs j d r.1 (omega arith) in
      omega arith
  RisesFrom-IsNonDecreasingBy low (x ∷ xs) r (suc i) zero d h g = absurd (omega arith)
  RisesFrom-IsNonDecreasingBy low (x ∷ xs) r (suc i) (suc j) d h g =
      RisesFrom-IsNonDecreasingBy (key x + 1) xs r.1 i j d (omega arith) (omega arith)

module _ {X : Type 0} (test : X → Bool) where
  pub cut_rest : (x : X) (xs : List X) (i : ℕ) → IsCut test (x ∷ xs) (suc i) → IsCut test xs i
  cut_rest x xs i c = (λ k d h g. c.0 (suc k) d (omega arith) (omega arith), λ k d h g. c.1 (suc k) d (omega arith) (omega arith))

  filter_none : (xs : List X) → IsCut test xs 0 → filter test xs ≡ []
  filter_none [] c = refl
  filter_none (x ∷ xs) c =
      let e : test x ≡ false = c.1 zero x (omega arith) (omega arith) in
      let r : IsCut test xs 0 = (λ k d h g. absurd (omega arith), λ k d h g. c.1 (suc k) d (omega arith) (omega arith)) in
      rw (e, filter_none xs r) refl

  pub filter-cut : (xs : List X) (i : ℕ) → IsCut test xs i → filter test xs ≡ take i xs
  filter-cut xs zero c = filter_none xs c
  filter-cut [] (suc i) c = refl
  filter-cut (x ∷ xs) (suc i) c =
      let e : test x ≡ true = c.0 zero x (omega arith) (omega arith) in
      rw (e, filter-cut xs i (cut_rest x xs i c)) refl

  pub find-cut : (other : X → Bool) → ((x : X) → other x ≡ not (test x)) → (xs : List X) (i : ℕ) → IsCut test xs i
      → find other xs ≡ slice_get xs i
  find-cut other o [] i c = refl
  find-cut other o (x ∷ xs) zero c =
      let e : test x ≡ false = c.1 zero x (omega arith) (omega arith) in
      rw (o x, e) refl
  find-cut other o (x ∷ xs) (suc i) c =
      let e : test x ≡ true = c.0 zero x (omega arith) (omega arith) in
      rw (o x, e) (find-cut other o xs i (cut_rest x xs i c))

module _ {X : Type 0} (key : X → ℕ) where
  pub place_by-cut : (x : X) (xs : List X) (i : ℕ) → IsCut (λ y. nat_lt (key y) (key x)) xs i
      → place_by key x xs ≡ take i xs ++ x ∷ drop i xs
  place_by-cut x [] zero c = refl
  place_by-cut x [] (suc i) c = refl
  place_by-cut x (y ∷ ys) zero c =
      let e : nat_lt (key y) (key x) ≡ false = c.1 zero y (omega arith) (omega arith) in
      rw e refl
  place_by-cut x (y ∷ ys) (suc i) c =
      let e : nat_lt (key y) (key x) ≡ true = c.0 zero y (omega arith) (omega arith) in
      rw (e, place_by-cut x ys i (cut_rest (λ z. nat_lt (key z) (key x)) y ys i c)) refl

-- what stands at the last place is the last
pub last-read : {X : Type 0} (xs : List X) → slice_get xs (length xs - 1) ≡ last xs
last-read [] = refl
last-read (x ∷ []) = refl
last-read (x ∷ y ∷ ys) =
    let s : length (x ∷ y ∷ ys) - 1 ≡ suc (length (y ∷ ys) - 1) = omega arith in
    rw s (last-read (y ∷ ys))

-- what is read at a place within the list stands there
pub slice_get-read : {X : Type 0} (xs : List X) (i : ℕ) (x : X) → i < length xs → x ≡ get_or xs i x → slice_get xs i ≡ Some x
slice_get-read [] i x h e = absurd (omega arith)
slice_get-read (y ∷ ys) zero x h e = ap Some (sym e)
slice_get-read (y ∷ ys) (suc i) x h e = slice_get-read ys i x (omega arith) e

module _ {X : Type 0} (key : X → ℕ) where
  cut_fails : (at : ℕ) (x : X) (xs : List X) → IsCut (λ y. nat_lt (key y) at) (x ∷ xs) 0 → at ≤ key x
  cut_fails at x xs c = ltb-false (key x) at (c.1 zero x (omega arith) (omega arith))

  cut_passes : (at : ℕ) (x : X) (xs : List X) (i : ℕ) → IsCut (λ y. nat_lt (key y) at) (x ∷ xs) (suc i) → key x < at
  cut_passes at x xs i c = ltb-true (key x) at (c.0 zero x (omega arith) (omega arith))

  -- the member at the key, where the first that doesn't lie below it has it
  pub at_cut : (low at : ℕ) (xs : List X) (i : ℕ) (y : X) → IsCut (λ x. nat_lt (key x) at) xs i → RisesFrom key low xs
      → slice_get xs i ≡ Some y → key y ≡ at → (find (λ x. key x == at) xs ≡ Some y)
      × (filter (λ x. not (key x == at)) xs ≡ remove xs i)
  at_cut low at [] i y c r g k = absurd (cc)
  at_cut low at (x ∷ xs) zero y c r g k =
      let same : x ≡ y = cc in
      let l : key x ≡ at = ap key same ∙ k in
      let e : (key x == at) ≡ true = grind (arith, nat_tests) in
      let rest = at_none key (key x + 1) at xs (omega arith) r.1 in
      (rw e (ap Some same), rw (e, rest.1) refl)
  at_cut low at (x ∷ xs) (suc i) y c r g k =
      let l = cut_passes at x xs i c in
      let e : (key x == at) ≡ false = grind (arith, nat_tests) in
      let rest = at_cut (key x + 1) at xs i y (cut_rest (λ z. nat_lt (key z) at) x xs i c) r.1 g k in
      (rw e rest.0, rw (e, rest.1) refl)

  -- no member at the key, where the first that doesn't lie below it has another or there is none
  pub not_at_cut : (low at : ℕ) (xs : List X) (i : ℕ) → IsCut (λ x. nat_lt (key x) at) xs i → RisesFrom key low xs
      → ((y : X) → slice_get xs i ≡ Some y → key y ≢ at) → (find (λ x. key x == at) xs ≡ None)
      × (filter (λ x. not (key x == at)) xs ≡ xs)
  not_at_cut low at [] i c r n = (refl, refl)
  not_at_cut low at (x ∷ xs) zero c r n =
      let l = cut_fails at x xs c in
      let other : key x ≢ at = n x refl in
      let e : (key x == at) ≡ false = grind (arith, nat_tests) in
      let rest = at_none key (key x + 1) at xs (omega arith) r.1 in
      (rw e rest.0, rw (e, rest.1) refl)
  not_at_cut low at (x ∷ xs) (suc i) c r n =
      let l = cut_passes at x xs i c in
      let e : (key x == at) ≡ false = grind (arith, nat_tests) in
      let rest = not_at_cut (key x + 1) at xs i (cut_rest (λ z. nat_lt (key z) at) x xs i c) r.1 n in
      (rw e rest.0, rw (e, rest.1) refl)

  -- from a cut on, the list rises from its key
  pub RisesFrom-cut : (low at : ℕ) (xs : List X) (i : ℕ) → IsCut (λ x. nat_lt (key x) at) xs i → RisesFrom key low xs
      → RisesFrom key at (drop i xs)
  RisesFrom-cut low at [] zero c r = tt
  RisesFrom-cut low at [] (suc i) c r = tt
  RisesFrom-cut low at (x ∷ xs) zero c r = (cut_fails at x xs c, r.1)
  RisesFrom-cut low at (x ∷ xs) (suc i) c r = RisesFrom-cut (key x + 1) at xs i (cut_rest (λ z. nat_lt (key z) at) x xs i c) r.1

-- the first from a place on stands at that place
pub first-drop : {X : Type 0} (xs : List X) (i : ℕ) → slice_get (drop i xs) 0 ≡ slice_get xs i
first-drop [] zero = refl
first-drop [] (suc i) = refl
first-drop (x ∷ xs) zero = refl
first-drop (x ∷ xs) (suc i) = first-drop xs i

-- past the end nothing stands
pub nothing_past : {X : Type 0} (xs : List X) (i : ℕ) (x : X) → length xs ≤ i → slice_get xs i ≡ Some x → ⊥
nothing_past xs i x h e = let g = slice_get_within xs i x e in omega arith
