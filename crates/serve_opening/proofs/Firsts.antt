use Rattle.std.proofs.Common.{◌≡◌, ℕ, suc, ◌+◌, ◌<◌, Bool, true, false, List, [], ◌∷◌, length, get_or, cond, find, All}
use Rattle.std.proofs.Common.{Some, None, refl, sym, ap, subst, arith}
use Rattle.std.specs.List.{position_from, remove}
use Rattle.std.proofs.lemmas.Option.{same_Some}
use Rattle.std.proofs.lemmas.List.Elements.{All-head, All-tail, All-cons}
use Rattle.serve_opening.specs.Gateways.{without_first}

-- The first of a list that passes a test, taken out by its place.

module _ {X : Type 0} (test : X → Bool) where
  pub record IsTaken (xs : List X) (place : ℕ) : Type 0 where
    pub within : place < length xs
    pub found : (x : X) → x ≡ get_or xs place x → find test xs ≡ Some x
    pub rest : remove xs place ≡ without_first test xs

  taken_by : (i : ℕ) (x : X) (xs : List X) (k : ℕ) (t : Bool) → test x ≡ t
      → cond t (Some i) (position_from test (i + 1) xs) ≡ Some k
      → (position_from test (i + 1) xs ≡ Some k → (j : ℕ) × (k ≡ i + 1 + j) × IsTaken xs j)
      → (j : ℕ) × (k ≡ i + j) × IsTaken (x ∷ xs) j
  taken_by i x xs k true e f rest =
      let same : i ≡ k = same_Some i k f in (
        0,
        omega (arith, same),
        record { within = omega arith; found = λ y at. rw e (ap Some (sym at)); rest = rw e refl },
      )
  taken_by i x xs k false e f rest =
      let r = rest f in (
        suc r.0,
        omega (arith, r.1),
        record {
          within = omega (arith, r.2.within);
          found = λ y at. rw e (r.2.found y at);
          rest = rw e (ap (λ l. x ∷ l) r.2.rest);
        },
      )

  taken_from : (i : ℕ) (xs : List X) (k : ℕ) → position_from test i xs ≡ Some k → (j : ℕ) × (k ≡ i + j) × IsTaken xs j
  taken_from i [] k e = absurd (cc)
  taken_from i (x ∷ xs) k e = taken_by i x xs k (test x) refl e (taken_from (i + 1) xs k)

  -- the first that passes stands at the place that was found
  pub first_taken : (xs : List X) (k : ℕ) → position_from test 0 xs ≡ Some k → IsTaken xs k
  first_taken xs k e =
      let r = taken_from 0 xs k e in
      let same : r.0 ≡ k = omega (arith, r.1) in
      subst (IsTaken xs) same r.2

  none_by : (i : ℕ) (x : X) (xs : List X) (t : Bool) → test x ≡ t → cond t (Some i) (position_from test (i + 1) xs) ≡ None
      → (position_from test (i + 1) xs ≡ None → (find test xs ≡ None) × (without_first test xs ≡ xs))
      → (find test (x ∷ xs) ≡ None) × (without_first test (x ∷ xs) ≡ x ∷ xs)
  none_by i x xs true e f rest = absurd (cc)
  none_by i x xs false e f rest =
      let r = rest f in
      (rw (e, r.0) refl, rw e (ap (λ l. x ∷ l) r.1))

  -- where none passes, all stay
  pub none_taken : (i : ℕ) (xs : List X) → position_from test i xs ≡ None
      → (find test xs ≡ None) × (without_first test xs ≡ xs)
  none_taken i [] e = (refl, refl)
  none_taken i (x ∷ xs) e = none_by i x xs (test x) refl e (none_taken (i + 1) xs)

  module _ (P : X → Type 0) where
    without_by : (x : X) (xs : List X) (t : Bool) → test x ≡ t → P x → All P xs → All P (without_first test xs)
        → All P (without_first test (x ∷ xs))
    without_by x xs true e p a h = rw e a
    without_by x xs false e p a h = rw e (All-cons P x (without_first test xs) p h)

    -- what holds of all holds of those that stay
    pub All-without_first : (xs : List X) → All P xs → All P (without_first test xs)
    All-without_first [] a = a
    All-without_first (x ∷ xs) a =
        without_by x xs (test x) refl (All-head P x xs a) (All-tail P x xs a) (All-without_first xs (All-tail P x xs a))

    found_by : (x : X) (xs : List X) (t : Bool) → test x ≡ t → P x → ((y : X) → find test xs ≡ Some y → P y) → (y : X)
        → find test (x ∷ xs) ≡ Some y → P y
    found_by x xs true e p h y f =
        let g = rw e at f in
        subst P (cc) p
    found_by x xs false e p h y f = h y (rw e at f)

    -- and of the one that is found
    pub All-find : (xs : List X) → All P xs → (y : X) → find test xs ≡ Some y → P y
    All-find [] a y f = absurd (cc)
    All-find (x ∷ xs) a y f =
        found_by x xs (test x) refl (All-head P x xs a) (λ z g. All-find xs (All-tail P x xs a) z g) y f
