use Rattle.std.specs.Prelude.{ℕ, ◌≡◌, ◌≢◌, ◌+◌, ◌≤◌, nat_lt, ◌==◌, Bool, true, false, not, ◌&&◌, ◌||◌, List, [], ◌∷◌}
use Rattle.std.specs.Prelude.{Option, Some, None, filter, cond, map}
use Rattle.std.proofs.Common.{refl, arith}
use Rattle.std.proofs.lemmas.Bool.Decides.{nat_tests}
use Rattle.radio_bands.specs.declared.band.Band.{Band}
use Rattle.radio_bands.specs.Band.{hour}
use Rattle.resv_list.specs.declared.reservation.Reservation.{Reservation}
use Rattle.resv_list.specs.Reservations.{start_of, end_of, airtime_us}
use Rattle.resv_list.specs.Sorted.{place_by}
use Rattle.resv_list.proofs.SortLemmas.{NoneAt, none_at_first, none_at_rest}
use Rattle.gateway_book.specs.Answer.{overlap}
use Rattle.gateway_book.specs.Disjoint.{overlaps, rested_from}
use Rattle.gateway_book.specs.Duty.{full_hour}
use Rattle.gateway_book.specs.Laws.{IsDutyAnswer}
use Rattle.gateway_book.specs.Least.{least}
use Rattle.gateway_book.proofs.CancelLaws.{begun-filter}
use Rattle.gateway_book.proofs.DutyLaws.{full_hour_answers}
use Rattle.gateway_book.proofs.OrderlyLaws.{MayJoin}

-- What may join a list may join each part of it.

-- of no numbers there is no least
least_none : (ns : List ℕ) → least ns ≡ None → ns ≡ []
least_none [] e = refl
least_none (n ∷ ns) e = absurd (cc)

no_start : (l : List Reservation) → map start_of l ≡ [] → l ≡ []
no_start [] e = refl
no_start (r ∷ l) e = absurd (cc)

module _ {X : Type 0} (p q test : X → Bool) (weaker : (x : X) → p x ≡ false → q x ≡ false) where
  none_by : (x : X) (xs : List X) (t s : Bool) → p x ≡ t → cond t (x ∷ filter p xs) (filter p xs) ≡ []
      → (filter p xs ≡ [] → filter q (filter test xs) ≡ [])
      → filter q (cond s (x ∷ filter test xs) (filter test xs)) ≡ []
  none_by x xs true s e n rest = absurd (cc)
  none_by x xs false true e n rest = rw (weaker x e) (rest n)
  none_by x xs false false e n rest = rest n

  -- where none passes a test, none of a part passes a stronger one
  none_of_part : (xs : List X) → filter p xs ≡ [] → filter q (filter test xs) ≡ []
  none_of_part [] e = refl
  none_of_part (x ∷ xs) e = none_by x xs (p x) (test x) refl e (none_of_part xs)

-- with a smaller gap fewer members overlap
fewer_overlap : (gap less from to : ℕ) → less ≤ gap → (r : Reservation)
    → overlaps start_of (rested_from gap) from (to + gap) r ≡ false → overlaps start_of (rested_from less) from (to + less) r ≡ false
fewer_overlap gap less from to h r e = grind (arith, nat_tests)

overlap_part : (gap less from to : ℕ) (test : Reservation → Bool) (l : List Reservation) → less ≤ gap
    → overlap gap l from to ≡ None → overlap less (filter test l) from to ≡ None
unfolding overlap
overlap_part gap less from to test l h e =
    let none = no_start _ (least_none _ e) in
    rw (none_of_part (overlaps start_of (rested_from gap) from (to + gap)) (overlaps start_of (rested_from less) from (to + less)) test
    (fewer_overlap gap less from to h) l none) refl

-- an hour of a part is no fuller
no_fuller : (band : Band) (start airtime : ℕ) (test : Reservation → Bool) (l : List Reservation) (o p : Option ℕ)
    → IsDutyAnswer l band start airtime o → o ≡ None → IsDutyAnswer (filter test l) band start airtime p → p ≡ None
no_fuller band start airtime test l o None a e b = refl
no_fuller band start airtime test l None (Some from) a e b =
    absurd (omega (arith, begun-filter band from (from + hour) test l, a from b.begins b.lasts, b.passes))
no_fuller band start airtime test l (Some other) (Some from) a e b = absurd (cc)

full_hour_part : (band : Band) (start airtime : ℕ) (test : Reservation → Bool) (l : List Reservation)
    → full_hour l band start airtime ≡ None → full_hour (filter test l) band start airtime ≡ None
full_hour_part band start airtime test l e =
    no_fuller band start airtime test l (full_hour l band start airtime) (full_hour (filter test l) band start airtime)
    (full_hour_answers l band start airtime) e (full_hour_answers (filter test l) band start airtime)

pub joins_part : (gap less : ℕ) (r : Reservation) (test : Reservation → Bool) (l : List Reservation) → less ≤ gap → MayJoin gap l r
    → MayJoin less (filter test l) r
joins_part gap less r test l h j =
    record {
      clear = overlap_part gap less r.start (end_of r) test l h j.clear;
      duty = λ band e. full_hour_part band r.start (airtime_us r) test l (j.duty band e);
    }

-- A test that is changed for one key alone, which no member has.

module _ {X : Type 0} (key : X → ℕ) (k : ℕ) (test : X → Bool) where
  abbrev pub with_key : X → Bool
  with_key x = (key x == k) || test x

  abbrev pub without_key : X → Bool
  without_key x = not (key x == k) && test x

  other_key : (x : X) → key x ≢ k → (key x == k) ≡ false
  other_key x h = by (key x == k) refl
    where
      by : (t : Bool) → (key x == k) ≡ t → t ≡ false
      by true e =
          let same : key x ≡ k = grind (arith, nat_tests) in
          absurd (h same)
      by false e = refl

  pub filter-with_key : (xs : List X) → NoneAt key k xs → filter with_key xs ≡ filter test xs
  filter-with_key [] n = refl
  filter-with_key (x ∷ xs) n =
      rw (other_key x (none_at_first key k x xs n), filter-with_key xs (none_at_rest key k x xs n)) refl

  pub filter-without_key : (xs : List X) → NoneAt key k xs → filter without_key xs ≡ filter test xs
  filter-without_key [] n = refl
  filter-without_key (x ∷ xs) n =
      rw (other_key x (none_at_first key k x xs n), filter-without_key xs (none_at_rest key k x xs n)) refl

  out_by : (x y : X) (xs : List X) (t : Bool) → without_key x ≡ false
      → filter without_key (place_by key x xs) ≡ filter without_key xs
      → filter without_key (cond t (y ∷ place_by key x xs) (x ∷ y ∷ xs)) ≡ filter without_key (y ∷ xs)
  out_by x y xs true e rest = rw rest refl
  out_by x y xs false e rest = rw e refl

  -- one with that key is left out, wherever it stands
  pub filter-left_out : (x : X) (xs : List X) → without_key x ≡ false → filter without_key (place_by key x xs) ≡ filter without_key xs
  filter-left_out x [] e = rw e refl
  filter-left_out x (y ∷ xs) e = out_by x y xs (nat_lt (key y) (key x)) e (filter-left_out x xs e)
