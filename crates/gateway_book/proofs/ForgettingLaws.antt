use Rattle.std.specs.Prelude.{ℕ, ◌≡◌, ◌≢◌, ◌≤◌, nat_lt, nat_le, ◌==◌, Bool, true, false, List, [], ◌∷◌, Option}
use Rattle.std.specs.Prelude.{Some, None, Err, filter, find, cond, length, if◌then◌else◌}
use Rattle.std.specs.Option.{option_map, option_and_then}
use Rattle.std.proofs.Common.{refl, sym, ap, subst, ◌∙◌, arith}
use Rattle.std.proofs.lemmas.Bool.{ltb-false, leb-false}
use Rattle.std.proofs.lemmas.Bool.Decides.{nat_tests}
use Rattle.radio_bands.specs.declared.band.Band.{Band}
use Rattle.radio_bands.specs.Band.{band_of}
use Rattle.resv_list.specs.declared.reservation.Reservation.{Reservation}
use Rattle.resv_list.specs.Reservations.{start_of, spent, by_start, place, IsByStart}
use Rattle.resv_list.proofs.SortedLaws.{RisesFrom-place_by}
use Rattle.resv_list.proofs.FilterLemmas.{find-stronger}
use Rattle.resv_list.proofs.SortLemmas.{NoneAt, none_at_sorted, rises_sorted}
use Rattle.resv_list.proofs.SortLemmas.{own_filtered, own_rising, own_placed, value-placed, value-sorted, place-change}
use Rattle.gateway_book.specs.declared.ask.Ask.{Ask}
use Rattle.gateway_book.specs.declared.refusal.Refusal.TheVariants.{Passed, Taken, DutyFull, Full}
use Rattle.gateway_book.specs.declared.cancel.CancelFault.TheVariants.{Begun}
use Rattle.gateway_book.specs.Kept.{is_kept, kept}
use Rattle.gateway_book.specs.Duty.{full_hour}
use Rattle.gateway_book.specs.Laws.{IsDutyAnswer}
use Rattle.gateway_book.specs.Answer.{Terms, ask_airtime, ask_end, refused_if, no_band, too_long, past_end, passed, taken}
use Rattle.gateway_book.specs.Answer.{overfull}
use Rattle.gateway_book.specs.Answer.{duty_full, full, totals_full, first_some, refusal_of}
use Rattle.gateway_book.specs.Step.{is_named, found_or, cancel_answer}
use Rattle.gateway_book.proofs.DutyLaws.{full_hour_answers}
use Rattle.gateway_book.proofs.KeptLaws.{filter-placed, kept-filtered, kept-by_start, kept-place, kept-filter, kept-later}
use Rattle.gateway_book.proofs.SightLaws.{AreOwn, overlap-kept, spent-kept, full_hour-kept}
use Rattle.gateway_book.specs.Disjoint.{most_gap}

-- What is kept answers as the whole list does.

-- a full hour is named with the same airtime
named_by : (l : List Reservation) (band : Band) (floor start airtime : ℕ) (o : Option ℕ) → AreOwn l → floor ≤ start
    → IsDutyAnswer l band start airtime o
    → option_map (λ from. DutyFull band from (spent (kept l floor) band from)) o
    ≡ option_map (λ from. DutyFull band from (spent l band from)) o
named_by l band floor start airtime None o h a = refl
named_by l band floor start airtime (Some from) o h a =
    ap (λ (n : ℕ). Some (DutyFull band from n)) (spent-kept l band floor from o (omega (arith, h, a.lasts)))

overfull-kept : (l : List Reservation) (floor start airtime : ℕ) → AreOwn l → floor ≤ start → (band : Band)
    → overfull (kept l floor) start airtime band ≡ overfull l start airtime band
overfull-kept l floor start airtime o h band =
    ap (option_map (λ from. DutyFull band from (spent (kept l floor) band from))) (full_hour-kept l band floor start airtime o h)
    ∙ named_by l band floor start airtime (full_hour l band start airtime) o h (full_hour_answers l band start airtime)

duty_by : (l : List Reservation) (floor start airtime : ℕ) (o : Option Band) → AreOwn l → floor ≤ start
    → option_and_then (overfull (kept l floor) start airtime) o ≡ option_and_then (overfull l start airtime) o
duty_by l floor start airtime None o h = refl
duty_by l floor start airtime (Some band) o h = overfull-kept l floor start airtime o h band

-- a list in order, filtered, is the filtered list in order
left_out_by : (test : Reservation → Bool) (r s : Reservation) (l : List Reservation) (t : Bool) → test r ≡ false
    → filter test (place r l) ≡ filter test l → filter test (cond t (s ∷ place r l) (r ∷ s ∷ l)) ≡ filter test (s ∷ l)
left_out_by test r s l true e rest = λ i. cond (test s) (s ∷ rest i) (rest i)
left_out_by test r s l false e rest = rw e refl

left_out : (test : Reservation → Bool) (r : Reservation) (l : List Reservation) → test r ≡ false
    → filter test (place r l) ≡ filter test l
left_out test r [] e = rw e refl
left_out test r (s ∷ l) e = left_out_by test r s l (nat_lt s.start r.start) e (left_out test r l e)

sorted_by : (test : Reservation → Bool) (r : Reservation) (l : List Reservation) (t : Bool) → test r ≡ t → AreOwn (r ∷ l)
    → by_start (filter test l) ≡ filter test (by_start l)
    → by_start (cond t (r ∷ filter test l) (filter test l)) ≡ filter test (place r (by_start l))
sorted_by test r l true e o rest =
    ap (place r) rest ∙ sym (filter-placed start_of test 0 r (by_start l) e (rises_sorted start_of l o.1))
sorted_by test r l false e o rest = rest ∙ sym (left_out test r (by_start l) e)

sorted_filter : (test : Reservation → Bool) (l : List Reservation) → AreOwn l
    → by_start (filter test l) ≡ filter test (by_start l)
sorted_filter test [] o = refl
sorted_filter test (r ∷ l) o = sorted_by test r l (test r) refl o (sorted_filter test l o.1)

-- what is kept of a list with starts of its own is what is kept of it in order
pub kept-sorted : (l : List Reservation) (floor : ℕ) → AreOwn l → kept l floor ≡ kept (by_start l) floor
unfolding kept
kept-sorted l floor o =
    sorted_filter (is_kept floor) l o ∙ sym (kept-filtered (by_start l) floor (rises_sorted start_of l o))

pub own-kept_by_start : (l : List Reservation) (floor : ℕ) → AreOwn l → IsByStart (kept l floor)
own-kept_by_start l floor o =
    let P : List Reservation → Type 0 = λ m. IsByStart m in
    subst P (sym (kept-sorted l floor o)) (kept-by_start (by_start l) floor (rises_sorted start_of l o))

pub own-kept : (l : List Reservation) (floor : ℕ) → AreOwn l → AreOwn (kept l floor)
own-kept l floor o = own_rising start_of 0 (kept l floor) (own-kept_by_start l floor o)

pub own-kept_later : (l : List Reservation) (floor later : ℕ) → AreOwn l → floor ≤ later
    → kept (kept l floor) later ≡ kept l later
own-kept_later l floor later o h =
    ap (λ (m : List Reservation). kept m later) (kept-sorted l floor o)
    ∙ kept-later (by_start l) floor later (rises_sorted start_of l o) h
    ∙ sym (kept-sorted l later o)

-- the rows behind the one on the floor, where it doesn't refuse
rows_behind : (terms : Terms) (l : List Reservation) (ask : Ask) → terms.rules.gap ≤ most_gap → AreOwn l
    → terms.floor ≤ ask.start
    → first_some (taken terms (kept l terms.floor) ask ∷ duty_full (kept l terms.floor) ask ∷ full terms (kept l terms.floor)
    ∷ totals_full terms ask ∷ [])
    ≡ first_some (taken terms l ask ∷ duty_full l ask ∷ full terms l ∷ totals_full terms ask ∷ [])
rows_behind terms l ask g o h =
    let a : taken terms (kept l terms.floor) ask ≡ taken terms l ask =
    ap (option_map Taken) (overlap-kept terms.rules.gap l terms.floor ask.start (ask_end ask) g o h) in
    let b : duty_full (kept l terms.floor) ask ≡ duty_full l ask =
    duty_by l terms.floor ask.start (ask_airtime ask) (band_of ask.freq_hz ask.rate) o h in
    let c : full terms (kept l terms.floor) ≡ full terms l =
    ap (λ (m : List Reservation). refused_if (length m == terms.rules.cap) Full)
    (own-kept_later l terms.floor terms.floor o (omega arith)) in
    rw (a, b, c) refl

-- what is before stands, and what is behind is the same
same_behind : {X : Type 0} (o : Option X) (ps qs : List (Option X)) → (o ≡ None → first_some ps ≡ first_some qs)
    → first_some (o ∷ ps) ≡ first_some (o ∷ qs)
same_behind None ps qs h = h refl
same_behind (Some x) ps qs h = refl

not_passed : (terms : Terms) (ask : Ask) (t : Bool) → nat_lt ask.start terms.floor ≡ t → refused_if t Passed ≡ None
    → terms.floor ≤ ask.start
not_passed terms ask true e n = absurd (cc)
not_passed terms ask false e n = ltb-false ask.start terms.floor e

pub refusal_of-kept : (terms : Terms) (l : List Reservation) (ask : Ask) → terms.rules.gap ≤ most_gap → AreOwn l
    → refusal_of terms (kept l terms.floor) ask ≡ refusal_of terms l ask
refusal_of-kept terms l ask g o =
    same_behind (no_band ask) _ _ (λ n1. same_behind (too_long ask) _ _ (λ n2. same_behind (past_end ask) _ _
    (λ n3. same_behind (passed terms ask) _ _ (λ n4. rows_behind terms l ask g o
    (not_passed terms ask (nat_lt ask.start terms.floor) refl n4)))))

-- what begins after the floor is kept, so it is found
found_by : (l : List Reservation) (floor number start : ℕ) (t : Bool) → nat_le start floor ≡ t → AreOwn l
    → (if t then Err Begun else found_or (find (is_named number start) (kept l floor)))
    ≡ (if t then Err Begun else found_or (find (is_named number start) l))
found_by l floor number start true e o = refl
found_by l floor number start false e o =
    let later = leb-false start floor e in
    let named : Reservation → Bool = is_named number start in
    ap found_or (ap (find named) (kept-sorted l floor o ∙ kept-filtered (by_start l) floor (rises_sorted start_of l o))
    ∙ find-stronger named (is_kept floor) (λ r f. grind (arith, nat_tests)) (by_start l)
    ∙ value-sorted start_of (find named) (λ r m. cond (named r) (Some r) m) (λ r m. refl) change l o)
  where
    change_by : (x z : Reservation) (y : Option Reservation) (t u : Bool) → is_named number start x ≡ t
        → is_named number start z ≡ u → x.start ≢ z.start
        → cond t (Some x) (cond u (Some z) y) ≡ cond u (Some z) (cond t (Some x) y)
    change_by x z y true true a b n =
        let same : x.start ≡ z.start = grind (arith, nat_tests) in
        absurd (n same)
    change_by x z y true false a b n = refl
    change_by x z y false true a b n = refl
    change_by x z y false false a b n = refl

    change : (x z : Reservation) (y : Option Reservation) → x.start ≢ z.start
        → cond (is_named number start x) (Some x) (cond (is_named number start z) (Some z) y)
        ≡ cond (is_named number start z) (Some z) (cond (is_named number start x) (Some x) y)
    change x z y n = change_by x z y (is_named number start x) (is_named number start z) refl refl n

pub cancel_answer-kept : (l : List Reservation) (floor number start : ℕ) → AreOwn l
    → cancel_answer floor (kept l floor) number start ≡ cancel_answer floor l number start
cancel_answer-kept l floor number start o = found_by l floor number start (nat_le start floor) refl o

-- what is kept of a list with one more member, or without some
placed_in_order : (r : Reservation) (l : List Reservation) → NoneAt start_of r.start l → AreOwn l
    → by_start (place r l) ≡ place r (by_start l)
placed_in_order r l n o =
    value-placed start_of by_start place (λ x m. refl) (λ x z m h. place-change start_of x z m h) r l n

pub own-kept_place : (r : Reservation) (l : List Reservation) (floor : ℕ) → NoneAt start_of r.start l → AreOwn l → floor ≤ r.start
    → kept (place r l) floor ≡ place r (kept l floor)
own-kept_place r l floor n o h =
    let s = rises_sorted start_of l o in
    let p = RisesFrom-place_by start_of 0 r (by_start l) (omega arith) (none_at_sorted start_of r.start l n) s in
    kept-sorted (place r l) floor (own_placed start_of r l n o)
    ∙ ap (λ (m : List Reservation). kept m floor) (placed_in_order r l n o)
    ∙ kept-place r (by_start l) floor s p (omega (arith, h))
    ∙ ap (place r) (sym (kept-sorted l floor o))

pub own-kept_filter : (test : Reservation → Bool) (l : List Reservation) (floor : ℕ) → AreOwn l
    → kept (filter test l) floor ≡ filter test (kept l floor)
own-kept_filter test l floor o =
    kept-sorted (filter test l) floor (own_filtered start_of test l o)
    ∙ ap (λ (m : List Reservation). kept m floor) (sorted_filter test l o)
    ∙ kept-filter test (by_start l) floor (rises_sorted start_of l o)
    ∙ ap (filter test) (sym (kept-sorted l floor o))
