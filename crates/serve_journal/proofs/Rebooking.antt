use Rattle.std.specs.Prelude.{ℕ, ◌≡◌, ◌+◌, ◌<◌, ◌≤◌, ◌==◌, nat_lt, Bool, true, false, is_some, List, [], ◌∷◌, ◌++◌, length, map}
use Rattle.std.specs.Prelude.{Option, Some, None, filter, cond, not, option_and_then, max, if◌then◌else◌}
use Rattle.std.proofs.Common.{refl, sym, ap, ◌∙◌, arith, length-append}
use Rattle.std.proofs.lemmas.Bool.{le-leb, le-ltb, ne_eqb}
use Rattle.std.proofs.lemmas.List.{length-map}
use Rattle.radio_airtime.specs.DataRate.{max_phy_of}
use Rattle.radio_bands.specs.Band.{hour, band_of}
use Rattle.radio_bands.specs.declared.band.Band.{Band}
use Rattle.resv_list.specs.declared.reservation.Reservation.{Reservation}
use Rattle.resv_list.specs.Begun.{begun-cons}
use Rattle.resv_list.specs.Fit.{last_end}
use Rattle.resv_list.specs.Reservations.{start_of, end_of, airtime_us, IsByStart, begun, net}
use Rattle.resv_list.specs.Sorted.{RisesFrom}
use Rattle.resv_list.proofs.NetLemmas.{net-cons, net-nil}
use Rattle.gateway_book.specs.declared.refusal.Refusal.{Refusal}
use Rattle.gateway_book.specs.Answer.{Rules, overfull, most_cap, total_limit, refusal_of}
use Rattle.gateway_book.specs.Book.{Book, IsBookList, state_of, terms_of, ticked}
use Rattle.gateway_book.specs.Disjoint.{most_gap, rested_from}
use Rattle.gateway_book.specs.Duty.{full_hour}
use Rattle.gateway_book.specs.Kept.{is_kept, kept, retired_of}
use Rattle.gateway_book.specs.Opening.{open_fault}
use Rattle.gateway_book.specs.Saved.{Saved, opened_again}
use Rattle.gateway_book.specs.Spaced.{SpacedFrom}
use Rattle.gateway_book.specs.Step.{State, book_step}
use Rattle.gateway_book.proofs.AnswerLaws.{book_step-accepted}
use Rattle.gateway_book.proofs.ApartLaws.{apart_spaced, spaced_apart}
use Rattle.gateway_book.proofs.FollowLaws.{asked_becomes, net-behind, net-short, place-last}
use Rattle.gateway_book.proofs.Joining.{IsFollower, followed}
use Rattle.gateway_book.proofs.KeptLaws.{kept-filtered}
use Rattle.gateway_book.proofs.OrderlyLaws.{all_fit}
use Rattle.gateway_book.proofs.Rejoining.{ask_of, asked_again, may_follow_again, rises_front}
use Rattle.serve_journal.specs.Journal.{booked, with_step}
use Rattle.serve_journal.specs.RenewalLaw.{unnumbered}

-- A book that is booked again, member by member in the order of the starts, is the book that is opened again.

-- The numbers of members say nothing of a list.

rises_unnumbered : (low : ℕ) (l : List Reservation) → RisesFrom start_of low l → RisesFrom start_of low (map unnumbered l)
rises_unnumbered low [] h = tt
rises_unnumbered low (r ∷ rs) h = (h.0, rises_unnumbered (r.start + 1) rs h.1)

spaced_unnumbered : (gap low : ℕ) (l : List Reservation) → SpacedFrom start_of (rested_from gap) low l
    → SpacedFrom start_of (rested_from gap) low (map unnumbered l)
spaced_unnumbered gap low [] h = tt
spaced_unnumbered gap low (r ∷ rs) h = (h.0, spaced_unnumbered gap (rested_from gap r) rs h.1)

begun_unnumbered : (band : Band) (from to : ℕ) (l : List Reservation) → begun band from to (map unnumbered l) ≡ begun band from to l
begun_unnumbered band from to [] = refl
begun_unnumbered band from to (r ∷ rs) =
    omega (
      arith,
      begun-cons band from to r rs,
      begun-cons band from to (unnumbered r) (map unnumbered rs),
      begun_unnumbered band from to rs,
    )

net_unnumbered : (l : List Reservation) → net (map unnumbered l) ≡ net l
net_unnumbered [] = refl
net_unnumbered (r ∷ rs) = omega (arith, net-cons r rs, net-cons (unnumbered r) (map unnumbered rs), net_unnumbered rs)

filter_by : (r : Reservation) (rs : List Reservation) (kept_rs : List Reservation) (t : Bool)
    → cond t (unnumbered r ∷ map unnumbered kept_rs) (map unnumbered kept_rs) ≡ map unnumbered (cond t (r ∷ kept_rs) kept_rs)
filter_by r rs kept_rs true = refl
filter_by r rs kept_rs false = refl

filter_unnumbered : (floor : ℕ) (l : List Reservation)
    → filter (is_kept floor) (map unnumbered l) ≡ map unnumbered (filter (is_kept floor) l)
filter_unnumbered floor [] = refl
filter_unnumbered floor (r ∷ rs) =
    ap (λ l. cond (is_kept floor r) (unnumbered r ∷ l) l) (filter_unnumbered floor rs)
    ∙ filter_by r rs (filter (is_kept floor) rs) (is_kept floor r)

pub unnumbered_book_list : (rules : Rules) (floor total : ℕ) (l : List Reservation) → IsBookList rules floor total l
    → IsBookList rules floor total (map unnumbered l)
unnumbered_book_list rules floor total l b =
    let rises = rises_unnumbered 0 l b.by_start in
    record {
      opened = b.opened;
      capped = b.capped;
      counted = omega (arith, length-map l unnumbered, b.counted);
      by_start = rises;
      rested = b.rested;
      lawful = record {
        fit = all_fit (map unnumbered l);
        apart =
            spaced_apart rules.gap 0 (map unnumbered l)
            (spaced_unnumbered rules.gap 0 l (apart_spaced rules.gap 0 l b.by_start b.lawful.apart));
        duty = λ band t. omega (arith, begun_unnumbered band t (t + hour) l, b.lawful.duty band t);
      };
      kept_whole =
          kept-filtered (map unnumbered l) floor rises
          ∙ filter_unnumbered floor l
          ∙ ap (map unnumbered) (sym (kept-filtered l floor b.by_start) ∙ b.kept_whole);
      covered = omega (arith, net_unnumbered l, b.covered);
      bounded = b.bounded;
    }

-- At the floor 0 all is kept.

all_kept : (l : List Reservation) → filter (is_kept 0) l ≡ l
all_kept [] = refl
all_kept (r ∷ rs) = rw (le-leb 0 (r.start + hour) (omega arith)) (ap (λ l. r ∷ l) (all_kept rs))

kept_at_0 : (l : List Reservation) → IsByStart l → kept l 0 ≡ l
kept_at_0 l rises = kept-filtered l 0 rises ∙ all_kept l

pub sunk : (rules : Rules) (floor total : ℕ) (l : List Reservation) → IsBookList rules floor total l
    → IsBookList rules 0 total l
sunk rules floor total l b =
    record {
      opened = b.opened;
      capped = b.capped;
      counted = b.counted;
      by_start = b.by_start;
      rested = b.rested;
      lawful = b.lawful;
      kept_whole = kept_at_0 l b.by_start;
      covered = b.covered;
      bounded = b.bounded;
    }

-- One member more.

no_duty : (xs : List Reservation) (r : Reservation) (o : Option Band)
    → ((band : Band) → o ≡ Some band → full_hour xs band r.start (airtime_us r) ≡ None)
    → option_and_then (overfull xs r.start (airtime_us r)) o ≡ None
no_duty xs r None none = refl
no_duty xs r (Some band) none = rw (none band refl) refl

module _ (id : ℕ) (rules : Rules) where
  -- the book of these members before its floor rises
  abbrev pub saved_with : List Reservation → Saved
  saved_with l = record { id = id; rules = rules; floor = 0; list = l }

  abbrev pub book_with : List Reservation → Book
  book_with l = opened_again (saved_with l)

  module _ (total : ℕ) (xs : List Reservation) (r : Reservation) (ys : List Reservation)
      (b : IsBookList rules 0 total (xs ++ r ∷ ys)) where
    follower : IsFollower (saved_with xs) (ask_of r) r
    follower =
        followed (saved_with xs) (ask_of r) r (may_follow_again (saved_with xs) total r ys b)
        (asked_becomes (ask_of r) r (asked_again r))

    unrefused : refusal_of (terms_of (book_with xs)) xs (ask_of r) ≡ None
    unrefused =
        let f = follower in
        let banded : is_some (band_of r.freq_hz r.rate) ≡ true = r.fit.banded in
        let sized : nat_lt (max_phy_of r.rate) r.len ≡ false = le-ltb (max_phy_of r.rate) r.len r.fit.sized in
        let timely : nat_lt last_end (end_of r) ≡ false = le-ltb last_end (end_of r) r.fit.timely in
        let ahead : nat_lt r.start 0 ≡ false = le-ltb r.start 0 (omega arith) in
        let rises : IsByStart xs = rises_front 0 xs (r ∷ ys) b.by_start in
        let few : length (kept xs 0) < rules.cap = omega (arith, f.room, ap length (kept_at_0 xs rises)) in
        let spare : (length (kept xs 0) == rules.cap) ≡ false =
        ne_eqb (length (kept xs 0)) rules.cap (λ e. omega (arith, few, e)) in
        let within : net xs + airtime_us r ≤ total_limit =
        omega (arith, net-behind xs r, net-short (xs ++ r ∷ []), length-append xs (r ∷ []), f.room, b.capped) in
        let limited : nat_lt total_limit (net xs + airtime_us r) ≡ false = le-ltb total_limit (net xs + airtime_us r) within in
        rw (
          banded,
          sized,
          timely,
          ahead,
          f.joins.clear,
          no_duty xs r (band_of r.freq_hz r.rate) f.joins.duty,
          spare,
          limited,
        ) refl

    pub booked_behind : booked (ask_of r) (book_with xs) ≡ Some (book_with (xs ++ r ∷ []))
    booked_behind =
        ap (λ (o : Option Refusal). if is_some o then None
        else Some (with_step (book_with xs) (book_step rules (state_of (book_with xs)) (ask_of r)))) unrefused
        ∙ ap (λ (s : State). Some (with_step (book_with xs) s))
        (book_step-accepted rules (state_of (book_with xs)) (ask_of r) r unrefused (asked_again r))
        ∙ ap (λ (l : List Reservation). Some (record (book_with xs) { list = l; booked = net xs + airtime_us r }))
        (place-last r xs follower.last)
        ∙ ap (λ (n : ℕ). Some (record (book_with xs) { list = xs ++ r ∷ []; booked = n })) (sym (net-behind xs r))

  -- where its floor rises, it keeps all
  split_net : (floor : ℕ) (l : List Reservation) → net (filter (is_kept floor) l) + net (retired_of l floor) ≡ net l
  split_net floor [] = omega (arith, net-nil)
  split_net floor (r ∷ rs) = by (is_kept floor r) (split_net floor rs)
    where
      by : (t : Bool) → net (filter (is_kept floor) rs) + net (retired_of rs floor) ≡ net rs
          → net (cond t (r ∷ filter (is_kept floor) rs) (filter (is_kept floor) rs))
          + net (cond (not t) (r ∷ retired_of rs floor) (retired_of rs floor))
          ≡ net (r ∷ rs)
      by true rest = omega (arith, net-cons r rs, net-cons r (filter (is_kept floor) rs), rest)
      by false rest = omega (arith, net-cons r rs, net-cons r (retired_of rs floor), rest)

  none_retired : (floor total : ℕ) (l : List Reservation) → IsBookList rules floor total l → net (retired_of l floor) ≡ 0
  none_retired floor total l b =
      omega (
        arith,
        split_net floor l,
        ap net (sym (kept-filtered l floor b.by_start) ∙ b.kept_whole),
      )

  pub ticked_whole : (floor total : ℕ) (l : List Reservation) → IsBookList rules floor total l
      → ticked (book_with l) floor ≡ opened_again (record (saved_with l) { floor = floor })
  ticked_whole floor total l b =
      let same : max 0 floor ≡ floor = omega arith in
      ap (λ (n : ℕ). record (book_with l) { floor = n; list = kept l n; retired = 0 + net (retired_of l n) }) same
      ∙ ap (λ (k : List Reservation). record (book_with l) { floor = floor; list = k; retired = 0 + net (retired_of l floor) })
      b.kept_whole
      ∙ ap (λ (n : ℕ). record (book_with l) { floor = floor; retired = 0 + n }) (none_retired floor total l b)

-- rules that a book keeps are rules that it may be opened with
pub rules_open : (rules : Rules) → 0 < rules.cap → rules.cap ≤ most_cap → rules.gap ≤ most_gap → open_fault rules ≡ None
rules_open rules some capped rested =
    let a : (rules.cap == 0) ≡ false = ne_eqb rules.cap 0 (λ e. omega (arith, e, some)) in
    let b : nat_lt most_cap rules.cap ≡ false = le-ltb most_cap rules.cap capped in
    let c : nat_lt most_gap rules.gap ≡ false = le-ltb most_gap rules.gap rested in
    rw (a, b, c) refl
