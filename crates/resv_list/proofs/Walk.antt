use Rattle.std.specs.Prelude.{ℕ, ◌≡◌, ◌+◌, ◌<◌, ◌≤◌, nat_le, Bool, true, false, List, [], ◌∷◌, Some, None, find, cond, refl}
use Rattle.std.proofs.Common.{arith, ap, sym, ◌∙◌, subst}
use Rattle.std.proofs.lemmas.Bool.{leb-true, leb-false, le-leb, lt-leb}
use Rattle.resv_list.specs.Sorted.{RisesFrom, first_from, rest_from}
use Rattle.resv_list.proofs.SortedLaws.{RisesFrom-filter}

-- A walk over a sorted list, from one member to the next.

module _ {X : Type 0} (key : X → ℕ) where
  -- the whole list is left where it rises from the limit
  pub rest_from-rises : (low limit : ℕ) (xs : List X) → limit ≤ low → RisesFrom key low xs → rest_from key limit xs ≡ xs
  rest_from-rises low limit [] h r = refl
  rest_from-rises low limit (x ∷ xs) h r =
      let e : nat_le limit (key x) ≡ true = le-leb limit (key x) (omega arith) in
      rw (e, rest_from-rises (key x + 1) limit xs (omega arith) r.1) refl

  nothing_by : (x : X) (limit : ℕ) (xs : List X) (t : Bool) → cond t (Some x) (first_from key limit xs) ≡ None
      → (first_from key limit xs ≡ None → rest_from key limit xs ≡ [])
      → cond t (x ∷ rest_from key limit xs) (rest_from key limit xs) ≡ []
  nothing_by x limit xs true e rest = absurd (cc)
  nothing_by x limit xs false e rest = rest e

  -- nothing is left where no member is found
  pub rest_from-None : (limit : ℕ) (xs : List X) → first_from key limit xs ≡ None → rest_from key limit xs ≡ []
  rest_from-None limit [] e = refl
  rest_from-None limit (x ∷ xs) e = nothing_by x limit xs (nat_le limit (key x)) e (rest_from-None limit xs)

  found_by : (low limit : ℕ) (x y : X) (xs : List X) (t : Bool) → nat_le limit (key y) ≡ t
      → cond t (Some y) (first_from key limit xs) ≡ Some x → RisesFrom key low (y ∷ xs)
      → (first_from key limit xs ≡ Some x → (rest_from key limit xs ≡ x ∷ rest_from key (key x + 1) xs) × (key y < key x))
      → (cond t (y ∷ rest_from key limit xs) (rest_from key limit xs) ≡ x ∷ rest_from key (key x + 1) (y ∷ xs)) × (low ≤ key x)
  found_by low limit x y xs true e f r rest =
      let s : y ≡ x = cc in
      let k : key y ≡ key x = ap key s in
      let h : limit ≤ key y = leb-true limit (key y) e in
      let a : rest_from key limit xs ≡ xs = rest_from-rises (key y + 1) limit xs (omega arith) r.1 in
      let b : nat_le (key x + 1) (key y) ≡ false = lt-leb (key x + 1) (key y) (omega arith) in
      let d : rest_from key (key x + 1) xs ≡ xs = rest_from-rises (key y + 1) (key x + 1) xs (omega arith) r.1 in
      rw (b, a, d) (ap (λ (z : X). z ∷ xs) s, omega arith)
  found_by low limit x y xs false e f r rest =
      let g : (rest_from key limit xs ≡ x ∷ rest_from key (key x + 1) xs) × (key y < key x) = rest f in
      let b : nat_le (key x + 1) (key y) ≡ false = lt-leb (key x + 1) (key y) (omega (arith, g.1)) in
      rw b (g.0, omega (arith, g.1))

  -- a member that is found is the first of what is left, and a later walk goes on behind it
  pub rest_from-Some : (low limit : ℕ) (x : X) (xs : List X) → RisesFrom key low xs → first_from key limit xs ≡ Some x
      → (rest_from key limit xs ≡ x ∷ rest_from key (key x + 1) xs) × (low ≤ key x)
  rest_from-Some low limit x [] r e = absurd (cc)
  rest_from-Some low limit x (y ∷ ys) r e = found_by low limit x y ys (nat_le limit (key y)) refl e r
      (λ f. let g = rest_from-Some (key y + 1) limit x ys r.1 f in (g.0, omega (arith, g.1)))

-- A search on a walk: for the first member that passes a test.

module _ {X : Type 0} (key : X → ℕ) (test : X → Bool) where
  -- what lies below a limit, and fails, may be left out of a search
  find_rest_by : (limit : ℕ) (x : X) (xs : List X) (t u : Bool) → nat_le limit (key x) ≡ t → test x ≡ u
      → (key x < limit → test x ≡ false) → find test (rest_from key limit xs) ≡ find test xs
      → find test (cond t (x ∷ rest_from key limit xs) (rest_from key limit xs)) ≡ cond u (Some x) (find test xs)
  find_rest_by limit x xs true u e f h rest = rw (f, rest) refl
  find_rest_by limit x xs false true e f h rest = absurd (cc (h (leb-false limit (key x) e)))
  find_rest_by limit x xs false false e f h rest = rest

  pub find_rest : (limit : ℕ) (xs : List X) → ((x : X) → key x < limit → test x ≡ false)
      → find test (rest_from key limit xs) ≡ find test xs
  find_rest limit [] h = refl
  find_rest limit (x ∷ xs) h = find_rest_by limit x xs (nat_le limit (key x)) (test x) refl refl (h x) (find_rest limit xs h)

  -- nothing is found among members that lie from a limit on, where those fail
  pub find_above_none : (limit low : ℕ) (xs : List X) → limit ≤ low → RisesFrom key low xs
      → ((x : X) → limit ≤ key x → test x ≡ false) → find test xs ≡ None
  find_above_none limit low [] l r h = refl
  find_above_none limit low (x ∷ xs) l r h =
      rw (h x (omega (arith, r.0))) (find_above_none limit (key x + 1) xs (omega (arith, r.0)) r.1 h)

  found_passes_by : (x y : X) (xs : List X) (t : Bool) → test y ≡ t → cond t (Some y) (find test xs) ≡ Some x
      → (find test xs ≡ Some x → test x ≡ true) → test x ≡ true
  found_passes_by x y xs true e f rest = let same : y ≡ x = cc in sym (ap test same) ∙ e
  found_passes_by x y xs false e f rest = rest f

  -- what is found passes
  pub found_passes : (x : X) (xs : List X) → find test xs ≡ Some x → test x ≡ true
  found_passes x [] e = absurd (cc)
  found_passes x (y ∷ ys) e = found_passes_by x y ys (test y) refl e (found_passes x ys)

  pub found_first : (x : X) (xs : List X) → test x ≡ true → find test (x ∷ xs) ≡ Some x
  found_first x xs e = rw e refl

  pub found_not : (x : X) (xs : List X) → test x ≡ false → find test (x ∷ xs) ≡ find test xs
  found_not x xs e = rw e refl

-- what a walk finds next
pub record IsNext {X : Type 0} (key : X → ℕ) (xs : List X) (from : ℕ) (x : X) : Type 0 where
  pub rest : rest_from key from xs ≡ x ∷ rest_from key (key x + 1) xs
  pub rises : RisesFrom key (key x + 1) (rest_from key (key x + 1) xs)
  pub later : from ≤ key x

pub is_next : {X : Type 0} (key : X → ℕ) (xs : List X) (from : ℕ) (x : X) → RisesFrom key 0 xs
    → first_from key from xs ≡ Some x → IsNext key xs from x
is_next {X} key xs from x s e =
    let next = rest_from-Some key 0 from x xs s e in
    let P : List X → Type 0 = λ ys. RisesFrom key 0 ys in
    let rises : RisesFrom key 0 (x ∷ rest_from key (key x + 1) xs) =
    subst P next.0 (RisesFrom-filter key (λ y. nat_le from (key y)) 0 xs s) in
    let passes : nat_le from (key x) ≡ true = found_passes key (λ y. nat_le from (key y)) x xs e in
    record { rest = next.0; rises = rises.1; later = leb-true from (key x) passes }
