use Rattle.std.proofs.Common.{◌≡◌, ℕ, suc, ◌+◌, ◌<◌, Bool, true, false, List, [], ◌∷◌, length, get_or, slice_set, cond}
use Rattle.std.proofs.Common.{Option, Some, None, refl, sym, ap, subst, ◌∙◌, arith}
use Rattle.std.specs.Prelude.{Result, Ok, Err}
use Rattle.std.specs.List.{position_from, list_any}
use Rattle.std.specs.Option.{option_map}
use Rattle.std.proofs.lemmas.Option.{same_Some}
use Rattle.serve_journal.specs.declared.fault.EntryFault.{EntryFault}
use Rattle.serve_journal.specs.declared.fault.EntryFault.TheVariants.{Refused, NoMemory}
use Rattle.serve_journal.specs.Journal.{changed}
use Rattle.serve_journal.specs.Steps.{Steps}

-- The first of a list that passes a test, changed, by its place.

module _ {X : Type 0} (test : X → Bool) where
  -- what stands at the place that was found
  pub record IsPlace (change : X → Option X) (xs : List X) (place : ℕ) : Type 0 where
    pub within : place < length xs
    pub there : list_any test xs ≡ true
    pub written : (x : X) → x ≡ get_or xs place x → changed test change xs ≡ option_map (λ y. slice_set xs place y) (change x)

  twice : (a b c : X) (o : Option X) (f : X → List X) → option_map (λ ys. a ∷ ys) (option_map f o) ≡ option_map (λ y. a ∷ f y) o
  twice a b c (Some y) f = refl
  twice a b c None f = refl

  found_by : (change : X → Option X) (i : ℕ) (x : X) (xs : List X) (k : ℕ) (t : Bool) → test x ≡ t
      → cond t (Some i) (position_from test (i + 1) xs) ≡ Some k
      → (position_from test (i + 1) xs ≡ Some k → (j : ℕ) × (k ≡ i + 1 + j) × IsPlace change xs j)
      → (j : ℕ) × (k ≡ i + j) × IsPlace change (x ∷ xs) j
  found_by change i x xs k true e f rest =
      let same : i ≡ k = same_Some i k f in (
        0,
        omega (arith, same),
        record {
          within = omega arith;
          there = rw e refl;
          written = λ y at. rw e (ap (λ z. option_map (λ w. w ∷ xs) (change z)) (sym at));
        },
      )
  found_by change i x xs k false e f rest =
      let r = rest f in (
        suc r.0,
        omega (arith, r.1),
        record {
          within = omega (arith, r.2.within);
          there = rw e r.2.there;
          written =
              λ y at.
              rw e (ap (option_map (λ ys. x ∷ ys)) (r.2.written y at) ∙ twice x x x (change y) (λ z. slice_set xs r.0 z));
        },
      )

  pub found : (change : X → Option X) (i : ℕ) (xs : List X) (k : ℕ) → position_from test i xs ≡ Some k
      → (j : ℕ) × (k ≡ i + j) × IsPlace change xs j
  found change i [] k e = absurd (cc)
  found change i (x ∷ xs) k e = found_by change i x xs k (test x) refl e (found change (i + 1) xs k)

  nowhere_by : (change : X → Option X) (i : ℕ) (x : X) (xs : List X) (t : Bool) → test x ≡ t
      → cond t (Some i) (position_from test (i + 1) xs) ≡ None
      → (position_from test (i + 1) xs ≡ None → (changed test change xs ≡ None) × (list_any test xs ≡ false))
      → (changed test change (x ∷ xs) ≡ None) × (list_any test (x ∷ xs) ≡ false)
  nowhere_by change i x xs true e f rest = absurd (cc)
  nowhere_by change i x xs false e f rest =
      let r = rest f in
      (rw (e, r.0) refl, rw (e, r.1) refl)

  -- nothing passes
  pub nowhere : (change : X → Option X) (i : ℕ) (xs : List X) → position_from test i xs ≡ None
      → (changed test change xs ≡ None) × (list_any test xs ≡ false)
  nowhere change i [] e = (refl, refl)
  nowhere change i (x ∷ xs) e = nowhere_by change i x xs (test x) refl e (nowhere change (i + 1) xs)

  pub at_place : (change : X → Option X) (xs : List X) (k : ℕ) → position_from test 0 xs ≡ Some k → IsPlace change xs k
  at_place change xs k e =
      let r = found change 0 xs k e in
      let same : r.0 ≡ k = omega (arith, r.1) in
      subst (IsPlace change xs) same r.2

  stepped_by : {S T : Type 0} (wrap : List X → S) (xs : List X) (k : ℕ) (o : Option X) (y : X) (r : Result T EntryFault)
      → Steps o y r → Steps (option_map wrap (option_map (λ z. slice_set xs k z) o)) (wrap (slice_set xs k y)) r
  stepped_by wrap xs k None y r s = s
  stepped_by wrap xs k (Some z) y (Ok done) s = ap (λ w. wrap (slice_set xs k w)) s
  stepped_by wrap xs k (Some z) y (Err NoMemory) s = tt
  stepped_by wrap xs k (Some z) y (Err Refused) s = absurd s

  -- a step at the place is a step of the whole
  pub stepped : {S T : Type 0} (wrap : List X → S) (change : X → Option X) (xs : List X) (k : ℕ) (x y : X)
      (r : Result T EntryFault) → position_from test 0 xs ≡ Some k → x ≡ get_or xs k x → Steps (change x) y r
      → Steps (option_map wrap (changed test change xs)) (wrap (slice_set xs k y)) r
  stepped wrap change xs k x y r e at s =
      rw ((at_place change xs k e).written x at) (stepped_by wrap xs k (change x) y r s)

  -- where nothing passes, all is refused
  pub not_stepped : {S T : Type 0} (wrap : List X → S) (change : X → Option X) (xs : List X) (after : S)
      (r : Result T EntryFault) → position_from test 0 xs ≡ None → r ≡ Err Refused
      → Steps (option_map wrap (changed test change xs)) after r
  not_stepped wrap change xs after r e s = rw (nowhere change 0 xs e).0 s
