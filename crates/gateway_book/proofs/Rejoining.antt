use Rattle.std.specs.Prelude.{ℕ, ◌≡◌, ◌+◌, ◌<◌, ◌≤◌, nat_lt, nat_le, Bool, true, false, is_some, List, [], ◌∷◌, ◌++◌, length}
use Rattle.std.specs.Prelude.{Option, Some, None, find, filter, cond, option_and_then}
use Rattle.std.specs.Option.{option_map}
use Rattle.std.proofs.Common.{refl, sym, ap, ◌∙◌, arith, length-append}
use Rattle.std.proofs.lemmas.Bool.{leb-true, lt-leb, le-leb, lt-ltb, le-ltb}
use Rattle.radio_airtime.specs.declared.data_rate.DataRate.{DataRate}
use Rattle.radio_airtime.specs.DataRate.{max_phy_of}
use Rattle.radio_bands.specs.Band.{hour, bands, band_of, lies_in, limit_of}
use Rattle.radio_bands.specs.declared.band.Band.{Band}
use Rattle.resv_list.specs.Begun.{begun-cons, begun-nil}
use Rattle.resv_list.specs.declared.reservation.Reservation.{Reservation}
use Rattle.resv_list.specs.Fit.{last_end}
use Rattle.resv_list.specs.Sorted.{RisesFrom}
use Rattle.resv_list.specs.Reservations.{start_of, end_of, airtime_us, IsByStart, begun, spent, is_in, share}
use Rattle.resv_list.proofs.Walk.{found_passes}
use Rattle.gateway_book.specs.declared.ask.Ask.{Ask}
use Rattle.gateway_book.specs.Answer.{IsAsked, first_some, overlap, overfull}
use Rattle.gateway_book.specs.Book.{IsBookList}
use Rattle.gateway_book.specs.Disjoint.{overlaps, rested_from}
use Rattle.gateway_book.specs.Duty.{full_hour}
use Rattle.gateway_book.specs.Kept.{is_kept}
use Rattle.gateway_book.specs.Laws.{IsDutyAnswer}
use Rattle.gateway_book.specs.Loading.{is_behind, may_follow}
use Rattle.gateway_book.specs.Saved.{Saved}
use Rattle.gateway_book.specs.Spaced.{SpacedFrom}
use Rattle.gateway_book.proofs.ApartLaws.{apart_spaced, first_has_least_start, rests_later}
use Rattle.gateway_book.proofs.CancelLaws.{fewer}
use Rattle.gateway_book.proofs.DutyLaws.{full_hour_answers}
use Rattle.gateway_book.proofs.FollowLaws.{fit_rows, follows}
use Rattle.gateway_book.proofs.KeptLaws.{kept-filtered}

-- Each member of a list that a book may keep may follow those before it.

-- what asks for the member again
abbrev pub ask_of : Reservation → Ask
ask_of r = record { number = r.number; start = r.start; freq_hz = r.freq_hz; rate = r.rate; len = r.len }

pub asked_again : (r : Reservation) → IsAsked (ask_of r) r
asked_again r = record { number = refl; start = refl; freq_hz = refl; rate = refl; len = refl }

pub rises_front : (low : ℕ) (xs ys : List Reservation) → RisesFrom start_of low (xs ++ ys) → RisesFrom start_of low xs
rises_front low [] ys h = tt
rises_front low (x ∷ xs) ys h = (h.0, rises_front (x.start + 1) xs ys h.1)

rises_to : (low : ℕ) (xs : List Reservation) (r : Reservation) (ys : List Reservation) → RisesFrom start_of low (xs ++ r ∷ ys)
    → low ≤ r.start
rises_to low [] r ys h = h.0
rises_to low (x ∷ xs) r ys h = omega (arith, h.0, rises_to (x.start + 1) xs r ys h.1)

none_behind : (low : ℕ) (xs : List Reservation) (r : Reservation) (ys : List Reservation)
    → RisesFrom start_of low (xs ++ r ∷ ys) → is_behind r.start xs ≡ false
none_behind low [] r ys h = refl
none_behind low (x ∷ xs) r ys h =
    let before : nat_le r.start x.start ≡ false = lt-leb r.start x.start (omega (arith, rises_to (x.start + 1) xs r ys h.1)) in
    rw before (none_behind (x.start + 1) xs r ys h.1)

spaced_to : (gap low : ℕ) (xs : List Reservation) (r : Reservation) (ys : List Reservation)
    → SpacedFrom start_of (rested_from gap) low (xs ++ r ∷ ys) → low ≤ r.start
spaced_to gap low [] r ys h = h.0
spaced_to gap low (x ∷ xs) r ys h =
    omega (arith, h.0, spaced_to gap (rested_from gap x) xs r ys h.1, rests_later gap x)

none_overlaps : (gap low to : ℕ) (xs : List Reservation) (r : Reservation) (ys : List Reservation)
    → SpacedFrom start_of (rested_from gap) low (xs ++ r ∷ ys) → find (overlaps start_of (rested_from gap) r.start to) xs ≡ None
none_overlaps gap low to [] r ys h = refl
none_overlaps gap low to (x ∷ xs) r ys h =
    let rested : nat_le (rested_from gap x) r.start ≡ true =
    le-leb (rested_from gap x) r.start (spaced_to gap (rested_from gap x) xs r ys h.1) in
    rw rested (none_overlaps gap (rested_from gap x) to xs r ys h.1)

clear_before : (gap : ℕ) (xs : List Reservation) (r : Reservation) (ys : List Reservation) → IsByStart (xs ++ r ∷ ys)
    → SpacedFrom start_of (rested_from gap) 0 (xs ++ r ∷ ys) → overlap gap xs r.start (end_of r) ≡ None
unfolding overlap
clear_before gap xs r ys o s =
    first_has_least_start _ xs (rises_front 0 xs (r ∷ ys) o) ∙ ap (option_map start_of) (none_overlaps gap 0 _ xs r ys s)

begun-append : (band : Band) (from to : ℕ) (xs ys : List Reservation)
    → begun band from to (xs ++ ys) ≡ begun band from to xs + begun band from to ys
begun-append band from to [] ys = omega (arith, begun-nil band from to)
begun-append band from to (x ∷ xs) ys =
    omega (arith, begun-cons band from to x xs, begun-cons band from to x (xs ++ ys), begun-append band from to xs ys)

lies_in-band_of : (freq_hz : ℕ) (rate : DataRate) (band : Band) → band_of freq_hz rate ≡ Some band
    → lies_in freq_hz rate band ≡ true
unfolding band_of
lies_in-band_of freq_hz rate band e = found_passes (λ b. 0) (lies_in freq_hz rate) band bands e

share_within : (band : Band) (t : ℕ) (r : Reservation) → is_in band r ≡ true → t ≤ r.start → r.start < t + hour
    → share band t (t + hour) r ≡ airtime_us r
share_within band t r e h g =
    let a : nat_le t r.start ≡ true = le-leb t r.start h in
    let b : nat_lt r.start (t + hour) ≡ true = lt-ltb r.start (t + hour) g in
    rw (e, a, b) refl

no_full_hour : (l : List Reservation) (band : Band) (start airtime : ℕ) (o : Option ℕ) → IsDutyAnswer l band start airtime o
    → ((t : ℕ) → t ≤ start → start < t + hour → spent l band t + airtime ≤ limit_of band) → o ≡ None
no_full_hour l band start airtime None a h = refl
no_full_hour l band start airtime (Some t) a h = absurd (omega (arith, a.passes, h t a.begins a.lasts))

duty_before : (xs : List Reservation) (r : Reservation) (ys : List Reservation)
    → ((band : Band) (t : ℕ) → spent (xs ++ r ∷ ys) band t ≤ limit_of band) → (band : Band)
    → band_of r.freq_hz r.rate ≡ Some band → full_hour xs band r.start (airtime_us r) ≡ None
duty_before xs r ys duty band e =
    let inside = lies_in-band_of r.freq_hz r.rate band e in
    no_full_hour xs band r.start (airtime_us r) (full_hour xs band r.start (airtime_us r))
    (full_hour_answers xs band r.start (airtime_us r))
    (λ t h g.
    omega (
      arith,
      duty band t,
      begun-append band t (t + hour) xs (r ∷ ys),
      begun-cons band t (t + hour) r ys,
      share_within band t r inside h g,
    ))

duty_none : (xs : List Reservation) (r : Reservation) (o : Option Band) → band_of r.freq_hz r.rate ≡ o
    → ((band : Band) → band_of r.freq_hz r.rate ≡ Some band → full_hour xs band r.start (airtime_us r) ≡ None)
    → option_and_then (overfull xs r.start (airtime_us r)) o ≡ None
duty_none xs r None e h = refl
duty_none xs r (Some band) e h = rw (h band e) refl

kept_first : (floor : ℕ) (r : Reservation) (ys : List Reservation) (t : Bool) → is_kept floor r ≡ t
    → cond t (r ∷ filter (is_kept floor) ys) (filter (is_kept floor) ys) ≡ r ∷ ys → is_kept floor r ≡ true
kept_first floor r ys true s h = s
kept_first floor r ys false s h = absurd (omega (arith, ap length h, fewer (is_kept floor) ys))

kept_rest : (floor : ℕ) (x : Reservation) (ys : List Reservation) (t : Bool)
    → cond t (x ∷ filter (is_kept floor) ys) (filter (is_kept floor) ys) ≡ x ∷ ys → filter (is_kept floor) ys ≡ ys
kept_rest floor x ys true h = cc
kept_rest floor x ys false h = absurd (omega (arith, ap length h, fewer (is_kept floor) ys))

kept_member : (floor : ℕ) (xs : List Reservation) (r : Reservation) (ys : List Reservation)
    → filter (is_kept floor) (xs ++ r ∷ ys) ≡ xs ++ r ∷ ys → is_kept floor r ≡ true
kept_member floor [] r ys e = kept_first floor r ys (is_kept floor r) refl e
kept_member floor (x ∷ xs) r ys e =
    kept_member floor xs r ys (kept_rest floor x (xs ++ r ∷ ys) (is_kept floor x) e)

fit_none : (r : Reservation) → first_some (fit_rows (ask_of r)) ≡ None
fit_none r =
    let banded : is_some (band_of r.freq_hz r.rate) ≡ true = r.fit.banded in
    let sized : nat_lt (max_phy_of r.rate) r.len ≡ false = le-ltb (max_phy_of r.rate) r.len r.fit.sized in
    let timely : nat_lt last_end (end_of r) ≡ false = le-ltb last_end (end_of r) r.fit.timely in
    rw (banded, sized, timely) refl

pub may_follow_again : (s : Saved) (booked : ℕ) (r : Reservation) (ys : List Reservation)
    → IsBookList s.rules s.floor booked (s.list ++ r ∷ ys) → may_follow s (ask_of r) ≡ true
may_follow_again s booked r ys b =
    let l = s.list ++ r ∷ ys in
    let whole = sym (kept-filtered l s.floor b.by_start) ∙ b.kept_whole in
    let kept : s.floor ≤ r.start + hour = leb-true s.floor (r.start + hour) (kept_member s.floor s.list r ys whole) in
    let clear = clear_before s.rules.gap s.list r ys b.by_start (apart_spaced s.rules.gap 0 l b.by_start b.lawful.apart) in
    follows s (ask_of r) (fit_none r) r (asked_again r) (none_behind 0 s.list r ys b.by_start) kept
    (omega (arith, b.counted, length-append s.list (r ∷ ys))) clear
    (duty_none s.list r (band_of r.freq_hz r.rate) refl (duty_before s.list r ys b.lawful.duty))
