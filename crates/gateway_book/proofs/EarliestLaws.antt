use Rattle.std.specs.Prelude.{◌-◌}
use Rattle.std.specs.Prelude.{ℕ, ◌≡◌, ◌+◌, ◌<◌, ◌≤◌, max, nat_lt, nat_le, Bool, true, false, List, Option}
use Rattle.std.specs.Prelude.{Some, None, cond, refl, Contains}
use Rattle.std.specs.Option.{option_map}
use Rattle.std.proofs.Common.{sym, arith, subst, inl, inr}
use Rattle.std.proofs.lemmas.Bool.{le-leb, ltb-false, cases_lt}
use Rattle.radio_bands.specs.declared.band.Band.{Band}
use Rattle.radio_bands.specs.Band.{hour, limit_of, band_of}
use Rattle.resv_list.specs.declared.reservation.Reservation.{Reservation}
use Rattle.resv_list.specs.Reservations.{start_of, is_in, spent, IsByStart, member_from}
use Rattle.resv_list.specs.Hours.{is_over, first_over}
use Rattle.resv_list.proofs.Walk.{found_passes}
use Rattle.gateway_book.specs.declared.ask.Ask.{Ask}
use Rattle.gateway_book.specs.declared.refusal.Refusal.{Refusal}
use Rattle.gateway_book.specs.declared.refusal.Refusal.TheVariants.{NoBand, TooLong, PastEnd, Passed, Taken, DutyFull, Full}
use Rattle.gateway_book.specs.declared.refusal.Refusal.TheVariants.{TotalsFull, NoMemory}
use Rattle.gateway_book.specs.Duty.{full_hour, after_full_hour}
use Rattle.gateway_book.specs.Laws.{IsOpening}
use Rattle.gateway_book.specs.Answer.{Terms, ask_airtime, ask_end, overlap}
use Rattle.gateway_book.specs.Answer.{refusal_of}
use Rattle.gateway_book.specs.Earliest.{at_start, Accepts, IsLeastAccepted, IsNextStart, IsCandidate}
use Rattle.gateway_book.proofs.AnswerLaws.{accepted}
use Rattle.gateway_book.proofs.EarliestLists.{overlapping, clear_after, not_before_end, first_full_hour, after_hour}
use Rattle.gateway_book.proofs.EarliestLists.{after_own_hour, never, begins_in, unfound, same_member, passing_member}
use Rattle.gateway_book.proofs.EarliestRows.{IsBusyBy, IsBusy, busy, told}
use Rattle.gateway_book.specs.Disjoint.{rested_from}

-- The earliest start at which an ask would be accepted.

-- Where to look on.

clear_at : (terms : Terms) (l : List Reservation) (ask : Ask) (s : ℕ) → Accepts terms l ask s
    → overlap terms.rules.gap l s (ask_end (at_start ask s)) ≡ None
clear_at terms l ask s acc = (accepted terms l (at_start ask s) acc).clear

spare_at : (terms : Terms) (l : List Reservation) (ask : Ask) (s : ℕ) (band : Band) → Accepts terms l ask s
    → band_of ask.freq_hz ask.rate ≡ Some band → full_hour l band s (ask_airtime ask) ≡ None
spare_at terms l ask s band acc b = (accepted terms l (at_start ask s) acc).duty band b

pub floor_at : (terms : Terms) (l : List Reservation) (ask : Ask) (s : ℕ) → Accepts terms l ask s → terms.floor ≤ s
floor_at terms l ask s acc = (accepted terms l (at_start ask s) acc).ahead

-- after what overlaps
pub next_taken : (terms : Terms) (l : List Reservation) (ask : Ask) (start : ℕ) (m : Reservation) → IsByStart l
    → refusal_of terms l ask ≡ Some (Taken start) → overlap terms.rules.gap l ask.start (ask_end ask) ≡ Some start
    → member_from start l ≡ Some m → IsNextStart terms l ask (Some (rested_from terms.rules.gap m))
next_taken terms l ask start m b e o f =
    let gap : ℕ = terms.rules.gap in
    let found = overlapping gap l ask.start (ask_end ask) start o in
    let r : Reservation = found.0 in
    let P : ℕ → Type 0 = λ n. member_from n l ≡ Some m in
    let same : m ≡ r = same_member start_of 0 r m l b found.1 (subst P (sym found.3) f) in
    let Q : Reservation → Type 0 = λ x. IsNextStart terms l ask (Some (rested_from gap x)) in
    subst Q (sym same) (inr (
      not_before_end ask.start (ask_end ask + gap) r.start (rested_from gap r) found.2,
      λ t h acc. clear_after gap l ask.start t (ask_airtime ask) r h found.1 found.2 (clear_at terms l ask t acc),
    ))

-- after a full hour
next_by : (terms : Terms) (l : List Reservation) (ask : Ask) (band : Band) (from : ℕ) (own : Bool) (o : Option Reservation)
    → IsByStart l → band_of ask.freq_hz ask.rate ≡ Some band → full_hour l band ask.start (ask_airtime ask) ≡ Some from
    → nat_lt from ask.start ≡ own → first_over band ask.start (ask.start + hour) 0 l ≡ o
    → IsNextStart terms l ask (cond own (Some (from + hour)) (option_map (λ r. r.start + hour) o))
next_by terms l ask band from true o s b f w q =
    let full = first_full_hour l band ask.start (ask_airtime ask) from f in
    inr (full.lasts, λ t h acc. after_hour l band ask.start t (ask_airtime ask) from h f (spare_at terms l ask t band acc b))
next_by terms l ask band from false o s b f w q =
    let full = first_full_hour l band ask.start (ask_airtime ask) from f in
    let same : from ≡ ask.start = omega (arith, full.begins, ltb-false from ask.start w) in
    let P : ℕ → Type 0 = λ n. limit_of band < spent l band n + ask_airtime ask in
    own_next terms l ask band o s b (subst P same full.passes) q
  where
    own_next : (terms : Terms) (l : List Reservation) (ask : Ask) (band : Band) (o : Option Reservation) → IsByStart l
        → band_of ask.freq_hz ask.rate ≡ Some band → limit_of band < spent l band ask.start + ask_airtime ask
        → first_over band ask.start (ask.start + hour) 0 l ≡ o
        → IsNextStart terms l ask (option_map (λ r. r.start + hour) o)
    own_next terms l ask band None s b over q =
        λ t h acc. absurd (never l band ask.start t (ask_airtime ask) over q (spare_at terms l ask t band acc b))
    own_next terms l ask band (Some m) s b over q =
        let within = begins_in (is_in band m) ask.start m.start (spent l band m.start)
        (found_passes start_of (is_over l band ask.start (ask.start + hour) 0) m l q) in
        inr (
          omega (arith, within.0),
          λ t h acc. after_own_hour l band ask.start t (ask_airtime ask) m s h over q (spare_at terms l ask t band acc b),
        )

pub next_full : (terms : Terms) (l : List Reservation) (ask : Ask) (band : Band) (from sum : ℕ) → IsByStart l
    → refusal_of terms l ask ≡ Some (DutyFull band from sum) → IsNextStart terms l ask (after_full_hour l band ask.start from)
next_full terms l ask band from sum s e =
    let t = told terms l ask (DutyFull band from sum) e in
    next_by terms l ask band from (nat_lt from ask.start) (first_over band ask.start (ask.start + hour) 0 l) s t.1 t.2 refl refl

-- after a refusal that doesn't pass
lasting : (o : Option ℕ) (b : Option Band) (h : Band → Option ℕ) (r : Refusal) → IsBusyBy o b h r
    → ((start : ℕ) → r ≡ Taken start → ⊥) → ((band : Band) (from sum : ℕ) → r ≡ DutyFull band from sum → ⊥) → ⊥
lasting o b h (Taken start) i t d = t start refl
lasting o b h (DutyFull band from sum) i t d = d band from sum refl
lasting o b h NoBand i t d = i
lasting o b h TooLong i t d = i
lasting o b h PastEnd i t d = i
lasting o b h Passed i t d = i
lasting o b h Full i t d = i
lasting o b h TotalsFull i t d = i
lasting o b h NoMemory i t d = i

pub next_none : (terms : Terms) (l : List Reservation) (ask : Ask) (r : Refusal) → terms.floor ≤ ask.start
    → refusal_of terms l ask ≡ Some r → ((start : ℕ) → r ≡ Taken start → ⊥)
    → ((band : Band) (from sum : ℕ) → r ≡ DutyFull band from sum → ⊥) → IsNextStart terms l ask None
next_none terms l ask r fl e t d =
    λ s h acc. absurd (lasting (overlap terms.rules.gap l ask.start (ask_end ask)) (band_of ask.freq_hz ask.rate)
    (λ band. full_hour l band ask.start (ask_airtime ask)) r (busy terms l ask s r fl h acc e) t d)

-- what overlaps is found from its start on
pub found_taken : (terms : Terms) (l : List Reservation) (ask : Ask) (start : ℕ) (o : Option Reservation) → IsByStart l
    → refusal_of terms l ask ≡ Some (Taken start) → member_from start l ≡ o
    → IsNextStart terms l ask (option_map (rested_from terms.rules.gap) o)
found_taken terms l ask start (Some m) b e f = next_taken terms l ask start m b e (told terms l ask (Taken start) e) f
found_taken terms l ask start None b e f =
    let found = overlapping terms.rules.gap l ask.start (ask_end ask) start (told terms l ask (Taken start) e) in
    absurd (unfound (λ x. nat_le start x.start) found.0 l found.1 (le-leb start found.0.start (omega (arith, found.3))) f)

-- Only ends of members and starts an hour ago open the way.

opened_by : (terms : Terms) (l : List Reservation) (ask : Ask) (a s : ℕ) (b : Option Refusal) → terms.floor ≤ ask.start
    → s ≡ ask.start + 1 → Accepts terms l ask s → refusal_of terms l ask ≡ b → (b ≡ None → ⊥) → IsCandidate terms l a s
opened_by terms l ask a s None fl n acc e some = absurd (some refl)
opened_by terms l ask a s (Some r) fl n acc e some = by_refusal r e (busy terms l ask s r fl (omega (arith, n)) acc e)
  where
    by_opening : (band : Band) (from : ℕ) → IsOpening l band ask.start from → s ≡ from + hour
        → (r : Reservation) × Contains l r × (s ≡ r.start + hour)
    by_opening band from (inl q) h = absurd (omega (arith, q, h, n))
    by_opening band from (inr c) h =
        let m = passing_member start_of (is_in band) from l c in
        (m.0, m.1, omega (arith, h, m.3))

    by_refusal : (r : Refusal) → refusal_of terms l ask ≡ Some r → IsBusy terms l ask r → IsCandidate terms l a s
    by_refusal (Taken start) e i =
        let gap : ℕ = terms.rules.gap in
        let found = overlapping gap l ask.start (ask_end ask) start i in
        let after = clear_after gap l ask.start s (ask_airtime ask) found.0 (omega (arith, n)) found.1 found.2
        (clear_at terms l ask s acc) in
        let before = not_before_end ask.start (ask_end ask + gap) found.0.start (rested_from gap found.0) found.2 in
        inr (found.0, found.1, inl (omega (arith, after, before, n)))
    by_refusal (DutyFull band from sum) e i =
        let full = first_full_hour l band ask.start (ask_airtime ask) from i.1 in
        let after = after_hour l band ask.start s (ask_airtime ask) from (omega (arith, n)) i.1
        (spare_at terms l ask s band acc i.0) in
        let m = by_opening band from full.opens (omega (arith, after, full.lasts, n)) in
        inr (m.0, m.1, inr m.2)
    by_refusal NoBand e i = absurd i
    by_refusal TooLong e i = absurd i
    by_refusal PastEnd e i = absurd i
    by_refusal Passed e i = absurd i
    by_refusal Full e i = absurd i
    by_refusal TotalsFull e i = absurd i
    by_refusal NoMemory e i = absurd i

pub earliest_candidates : (terms : Terms) (l : List Reservation) (ask : Ask) (a z s : ℕ) → IsLeastAccepted terms l ask a z s
    → IsCandidate terms l a s
earliest_candidates terms l ask a z s is =
    elim (cases_lt (max a terms.floor) s) [
      | inl h ↦
          opened_by terms l (at_start ask (s - 1)) a s (refusal_of terms l (at_start ask (s - 1))) (omega (arith, h))
          (omega (arith, h)) is.accepted refl (λ e. let k = is.least (s - 1) (omega (arith, h)) e in omega (arith, k, h))
      | inr h ↦ inl (omega (arith, h, is.from, floor_at terms l ask s is.accepted))
    ]
