use Rattle.std.specs.Prelude.{ℕ, ◌≡◌, ◌+◌, ◌-◌, ◌*◌, ◌/◌, ◌<◌, ◌≤◌, List, [], ◌∷◌, Some, length, drop}
use Rattle.std.proofs.Common.{refl, arith, zero, suc, sym, ap, ◌∙◌, subst, length-drop, get_or, take}
use Rattle.std.proofs.lemmas.List.{at_drop_more, take_rest}
use Rattle.radio_bands.specs.declared.band.Band.{Band}
use Rattle.radio_bands.specs.Band.{hour, band_of}
use Rattle.resv_list.specs.declared.reservation.Reservation.{Reservation}
use Rattle.resv_list.specs.Sorted.{RisesFrom}
use Rattle.resv_list.specs.Reservations.{start_of, airtime_in, begun, IsByStart}
use Rattle.resv_list.specs.Begun.{begun-cons}
use Rattle.resv_list.proofs.BegunLemmas.{share_before, share_within, begun_late}
use Rattle.resv_list.proofs.SortedLaws.{RisesFrom-lower}
use Rattle.resv_tree.specs.declared.sums.Sums.{Sums}
use Rattle.resv_tree.specs.declared.entry.Entry.{Entry}
use Rattle.resv_tree.specs.Entries.{key_of, members, Each}
use Rattle.resv_tree.specs.Filling.{with_hours, EndsBy, IsAhead}
use Rattle.resv_tree.specs.OwnHours.{own_hour, HasHours}
use Rattle.resv_tree.specs.Sums.{sum_in, quarters_in}
use Rattle.resv_tree.proofs.EntryLemmas.{banded, amount_of, amount_at, each-with}
use Rattle.resv_tree.proofs.QuarterLemmas.{own_hour_whole}
use Rattle.resv_tree.proofs.SumLemmas.{airtime_in-short, begun_le-total, begun_between}
use Rattle.resv_tree.proofs.TotalLemmas.{total_in, total_in-nil, total_in-cons}

-- A walk over members by start, with the sums of what begins in the hour that the next one opens.

-- what is left of a list that rises does so too
rises_drop : {X : Type 0} (key : X → ℕ) (low count : ℕ) (xs : List X) → RisesFrom key low xs → RisesFrom key low (drop count xs)
rises_drop key low zero xs r = r
rises_drop key low (suc n) [] r = tt
rises_drop key low (suc n) (x ∷ xs) r = RisesFrom-lower key low (key x + 1) (drop n xs) (omega (arith, r.0)) (rises_drop key
    (key x + 1) n xs r.1)

-- no member has more than 2^22 microseconds
total_short : (band : Band) (l : List Reservation) → total_in band l ≤ 4194304 * length l
total_short band [] = omega (arith, total_in-nil band)
total_short band (r ∷ rs) = omega (arith, total_in-cons band r rs, airtime_in-short band r, total_short band rs)

begun_bounded : (band : Band) (to : ℕ) (l : List Reservation) → length l ≤ 65536 → begun band 0 to l ≤ 274877906944
begun_bounded band to l h = omega (arith, begun_le-total band to l, total_short band l)

-- while there is a next one, the sums are bounded
pub sums_bounded : (left ahead : List Reservation) (s : Sums) → 0 < length left → IsAhead left ahead s
    → (band : Band) → sum_in s band ≤ 274877906944
sums_bounded [] ahead s h w band = absurd (omega arith)
sums_bounded (m ∷ ms) ahead s h w band =
    omega (arith, w.parted band (m.start + hour) (omega arith), begun_bounded band (m.start + hour) (m ∷ ms) w.left_room)

-- One step of the walk: `m` is the next one, `n` are taken in, and then `m` is taken out.
module _ (left ahead : List Reservation) (s t : Sums) (n : ℕ) (d : Reservation) (some : 0 < length left)
    (whole : IsAhead left ahead s) (all : (band : Band) → begun band 0 ((get_or left 0 d).start + hour) (drop n ahead) ≡ 0)
    (taken : (band : Band) (end : ℕ) → (get_or left 0 d).start + hour ≤ end
    → sum_in t band + begun band 0 end (drop n ahead) ≡ sum_in s band + begun band 0 end ahead) where
  abbrev m : Reservation
  m = get_or left 0 d

  abbrev ms : List Reservation
  ms = drop 1 left

  split : left ≡ m ∷ ms
  split = at_drop_more (λ (l : List Reservation). l) left 0 d some

  w : IsAhead (m ∷ ms) ahead s
  w = subst (λ l. IsAhead l ahead s) split whole

  -- the sums are then what begins before the end of its hour
  whole_hour : (band : Band) → sum_in t band ≡ begun band 0 (m.start + hour) (m ∷ ms)
  whole_hour band =
      let parted = w.parted band (m.start + hour) (omega arith) in
      omega (arith, all band, taken band (m.start + hour) (omega arith), parted)

  -- and so much of it is the member's own airtime
  here : (band : Band) (to : ℕ) → m.start < to → begun band 0 to (m ∷ ms) ≡ airtime_in band m + begun band 0 to ms
  here band to h = omega (arith, begun-cons band 0 to m ms, share_within band 0 to m (omega arith) h)

  pub step_bounded : (band : Band) → sum_in t band < 549755813888
  step_bounded band = omega (arith, whole_hour band, begun_bounded band (m.start + hour) (m ∷ ms) w.left_room)

  pub step_covers : (band : Band) → airtime_in band m ≤ sum_in t band
  step_covers band = omega (arith, whole_hour band, here band (m.start + hour) (omega arith))

  own_of_next : (band : Band) → band_of m.freq_hz m.rate ≡ Some band → sum_in t band ≡ own_hour (m ∷ ms) m
  own_of_next band e =
      omega (
        arith,
        whole_hour band,
        begun_between band m.start (m.start + hour) (m ∷ ms) (omega arith),
        begun_late band 0 m.start m.start (m ∷ ms) (omega arith) (omega arith, w.left_by_start.1),
        amount_of (λ b. begun b m.start (m.start + hour) (m ∷ ms)) m band e,
      )

  own_of : (band : Band) (own : ℕ) → band_of m.freq_hz m.rate ≡ Some band → own ≡ quarters_in t band
      → own_hour (m ∷ ms) m / 128 ≡ own
  own_of band own e is = omega (arith, is, own_of_next band e)

  pub step_given : (band : Band) (own : ℕ) → band_of m.freq_hz m.rate ≡ Some band → own ≡ quarters_in t band
      → with_hours left ≡ record { reservation = m; own = own } ∷ with_hours (take (length left - 1) ms)
  step_given band own e is =
      ap with_hours split ∙ ap (λ n. record { reservation = m; own = n } ∷ with_hours ms) (own_of band own e is)
      ∙ ap (λ l. record { reservation = m; own = own } ∷ with_hours l) (sym (take_rest left 1))

  -- the hours of those behind it end later
  later : (l : List Reservation) → RisesFrom start_of (m.start + 1) l → (to : ℕ) → EndsBy to l → m.start + hour ≤ to
  later [] r to e = absurd e
  later (x ∷ xs) r to e = omega (arith, r.0, e)

  rest_ahead : (u : Sums) → ((band : Band) → sum_in u band + airtime_in band m ≡ sum_in t band) → IsAhead ms (drop n ahead) u
  rest_ahead u out =
      record {
        left_by_start = RisesFrom-lower start_of 0 (m.start + 1) ms (omega arith) w.left_by_start.1;
        ahead_by_start = rises_drop start_of 0 n ahead w.ahead_by_start;
        left_room = omega (arith, w.left_room);
        ahead_room = omega (arith, w.ahead_room, length-drop n ahead);
        parted = λ band to e.
            let h : m.start + hour ≤ to = later ms w.left_by_start.1 to e in
            omega (arith, out band, taken band to h, w.parted band to h, here band to (omega (arith, h)));
      }

  pub step_ahead : (u : Sums) → ((band : Band) → sum_in u band + airtime_in band m ≡ sum_in t band)
      → IsAhead (take (length left - 1) ms) (take (length ahead - n) (drop n ahead)) u
  step_ahead u out =
      subst (λ l. IsAhead l (take (length ahead - n) (drop n ahead)) u) (sym (take_rest left 1))
      (subst (λ l. IsAhead ms l u) (sym (take_rest ahead n)) (rest_ahead u out))

-- What is built from a list by start has the own hours of all its members.

pub members-with_hours : (l : List Reservation) → members (with_hours l) ≡ l
members-with_hours [] = refl
members-with_hours (r ∷ rs) = ap (λ (ms : List Reservation). r ∷ ms) (members-with_hours rs)

each_later : (low : ℕ) (l : List Reservation) → RisesFrom start_of low l → Each (λ e. low ≤ key_of e) (with_hours l)
each_later low [] r = tt
each_later low (x ∷ xs) r = (
  r.0,
  each-with (λ e. x.start + 1 ≤ key_of e) (λ e. x.start + 1 ≤ key_of e) (λ e. low ≤ key_of e)
      (λ e p q. omega (arith, p, r.0)) (with_hours xs) (each_later (x.start + 1) xs r.1) (each_later (x.start + 1) xs r.1),
)

-- one more in front begins in the own hour of none behind it
one_in_front : (r : Reservation) (rs : List Reservation) (e : Entry) → r.start + 1 ≤ key_of e
    → 128 * e.own ≡ own_hour rs e.reservation
    → 128 * e.own ≡ own_hour (r ∷ rs) e.reservation
one_in_front r rs e h own =
    let b = banded e.reservation in
    omega (
      arith,
      own,
      begun-cons b.band (key_of e) (key_of e + hour) r rs,
      share_before b.band (key_of e) (key_of e + hour) r (omega (arith, h)),
      amount_at (λ c. begun c (key_of e) (key_of e + hour) rs) e.reservation b,
      amount_at (λ c. begun c (key_of e) (key_of e + hour) (r ∷ rs)) e.reservation b,
    )

hours_of_all : (low : ℕ) (l : List Reservation) → RisesFrom start_of low l
    → Each (λ e. 128 * e.own ≡ own_hour l e.reservation) (with_hours l)
hours_of_all low [] r = tt
hours_of_all low (x ∷ xs) r = (
  own_hour_whole (x ∷ xs) x,
  each-with (λ e. x.start + 1 ≤ key_of e) (λ e. 128 * e.own ≡ own_hour xs e.reservation)
      (λ e. 128 * e.own ≡ own_hour (x ∷ xs) e.reservation) (one_in_front x xs) (with_hours xs) (each_later (x.start + 1) xs r.1)
      (hours_of_all (x.start + 1) xs r.1),
)

pub with_hours-has : (l : List Reservation) → IsByStart l → HasHours (with_hours l)
with_hours-has l b =
    subst (λ k. Each (λ e. 128 * e.own ≡ own_hour k e.reservation) (with_hours l)) (sym (members-with_hours l))
    (hours_of_all 0 l b)
