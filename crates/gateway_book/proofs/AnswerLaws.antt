use Rattle.std.specs.Prelude.{ℕ, ◌≡◌, ◌≢◌, ◌+◌, ◌≤◌, nat_lt, ◌==◌, Bool, true, false, not, is_some, List, [], ◌∷◌, length, Option}
use Rattle.std.specs.Prelude.{Some, None}
use Rattle.std.specs.Option.{option_map}
use Rattle.std.proofs.Common.{refl, sym, ap, ◌∙◌, arith}
use Rattle.std.proofs.lemmas.Bool.Decides.{nat_tests}
use Rattle.radio_airtime.specs.DataRate.{max_phy_of}
use Rattle.radio_bands.specs.Band.{band_of}
use Rattle.resv_list.specs.declared.reservation.Reservation.{Reservation}
use Rattle.resv_list.specs.Fit.{last_end}
use Rattle.resv_list.specs.SameFields.{same_fields}
use Rattle.resv_list.specs.Reservations.{airtime_us, place, spent}
use Rattle.gateway_book.specs.declared.ask.Ask.{Ask}
use Rattle.gateway_book.specs.declared.refusal.Refusal.{Refusal}
use Rattle.gateway_book.specs.declared.refusal.Refusal.TheVariants.{NoBand, TooLong, PastEnd, Passed, Taken, DutyFull, Full}
use Rattle.gateway_book.specs.declared.refusal.Refusal.TheVariants.{TotalsFull}
use Rattle.radio_bands.specs.declared.band.Band.{Band}
use Rattle.gateway_book.specs.Duty.{full_hour}
use Rattle.gateway_book.specs.Kept.{kept}
use Rattle.gateway_book.specs.Answer.{Rules, Terms, ask_airtime, ask_end, IsAsked, refused_if, no_band, too_long, past_end}
use Rattle.gateway_book.specs.Answer.{passed, overlap, taken, overfull, duty_full, full, total_limit, totals_full, first_some}
use Rattle.gateway_book.specs.Answer.{refusal_of}
use Rattle.gateway_book.specs.Step.{terms_at, is_fit, made_if, reservation_of, placed, State, book_step, after_answer}

-- What it means that an ask is accepted.

pub record IsAccepted (terms : Terms) (l : List Reservation) (ask : Ask) : Type 0 where
  pub fit : is_fit ask ≡ true
  pub ahead : terms.floor ≤ ask.start
  pub clear : overlap terms.rules.gap l ask.start (ask_end ask) ≡ None
  pub duty : (band : Band) → band_of ask.freq_hz ask.rate ≡ Some band → full_hour l band ask.start (ask_airtime ask) ≡ None
  pub spare : length (kept l terms.floor) ≢ terms.rules.cap
  pub total : terms.booked + ask_airtime ask ≤ total_limit

pub first_none : {X : Type 0} (o : Option X) (os : List (Option X)) → first_some (o ∷ os) ≡ None
    → (o ≡ None) × (first_some os ≡ None)
first_none None os e = (refl, e)
first_none (Some x) os e = absurd (cc)

pub no_refusal : (t : Bool) (r : Refusal) → refused_if t r ≡ None → t ≡ false
no_refusal true r e = absurd (cc)
no_refusal false r e = refl

pub not_taken : (o : Option ℕ) → option_map Taken o ≡ None → o ≡ None
not_taken None e = refl
not_taken (Some s) e = absurd (cc)

no_full : (l : List Reservation) (band : Band) (o : Option ℕ)
    → option_map (λ from. DutyFull band from (spent l band from)) o ≡ None → o ≡ None
no_full l band None e = refl
no_full l band (Some from) e = absurd (cc)

pub not_full : (l : List Reservation) (ask : Ask) (band : Band) → overfull l ask.start (ask_airtime ask) band ≡ None
    → full_hour l band ask.start (ask_airtime ask) ≡ None
not_full l ask band e = no_full l band (full_hour l band ask.start (ask_airtime ask)) e

pub accepted : (terms : Terms) (l : List Reservation) (ask : Ask) → refusal_of terms l ask ≡ None → IsAccepted terms l ask
accepted terms l ask e =
    let a = first_none (no_band ask) (too_long ask ∷ past_end ask ∷ passed terms ask ∷ taken terms l ask ∷ duty_full l ask
    ∷ full terms l ∷ totals_full terms ask ∷ []) e in
    let b = first_none (too_long ask) (past_end ask ∷ passed terms ask ∷ taken terms l ask ∷ duty_full l ask ∷ full terms l
    ∷ totals_full terms ask ∷ []) a.1 in
    let c = first_none (past_end ask)
    (passed terms ask ∷ taken terms l ask ∷ duty_full l ask ∷ full terms l ∷ totals_full terms ask
    ∷ []) b.1 in
    let d = first_none (passed terms ask) (taken terms l ask ∷ duty_full l ask ∷ full terms l ∷ totals_full terms ask ∷ []) c.1 in
    let f = first_none (taken terms l ask) (duty_full l ask ∷ full terms l ∷ totals_full terms ask ∷ []) d.1 in
    let g = first_none (duty_full l ask) (full terms l ∷ totals_full terms ask ∷ []) f.1 in
    let h = first_none (full terms l) (totals_full terms ask ∷ []) g.1 in
    let i = first_none (totals_full terms ask) [] h.1 in
    let banded : not (is_some (band_of ask.freq_hz ask.rate)) ≡ false = no_refusal _ NoBand a.0 in
    let sized : nat_lt (max_phy_of ask.rate) ask.len ≡ false = no_refusal _ TooLong b.0 in
    let timely : nat_lt last_end (ask_end ask) ≡ false = no_refusal _ PastEnd c.0 in
    let on_time : nat_lt ask.start terms.floor ≡ false = no_refusal _ Passed d.0 in
    let room : (length (kept l terms.floor) == terms.rules.cap) ≡ false = no_refusal _ Full h.0 in
    let within : nat_lt total_limit (terms.booked + ask_airtime ask) ≡ false = no_refusal _ TotalsFull i.0 in
    record {
      fit = fits banded sized timely;
      ahead = grind (arith, nat_tests);
      clear = not_taken (overlap terms.rules.gap l ask.start (ask_end ask)) f.0;
      duty = λ band b. not_full l ask band (rw b at g.0);
      spare = λ same. grind (arith, nat_tests);
      total = grind (arith, nat_tests);
    }
  where
    fits : not (is_some (band_of ask.freq_hz ask.rate)) ≡ false → nat_lt (max_phy_of ask.rate) ask.len ≡ false
        → nat_lt last_end (ask_end ask) ≡ false → is_fit ask ≡ true
    fits b s t = grind (arith, nat_tests)

-- the reservation that an accepted ask becomes is the one with its fields
asked_is : (ask : Ask) (r : Reservation) (t : Bool) (e : is_fit ask ≡ t) → t ≡ true → IsAsked ask r → made_if ask t e ≡ Some r
asked_is ask r true e h a = ap Some (same_fields _ r (sym a.number) (sym a.start) (sym a.freq_hz) (sym a.rate) (sym a.len))
asked_is ask r false e h a = absurd (cc)

pub reservation_of-asked : (ask : Ask) (r : Reservation) → is_fit ask ≡ true → IsAsked ask r → reservation_of ask ≡ Some r
reservation_of-asked ask r h a = asked_is ask r (is_fit ask) refl h a

-- an accepted ask is one step, by the reservation with its fields
pub book_step-accepted : (rules : Rules) (s : State) (ask : Ask) (r : Reservation)
    → refusal_of (terms_at rules s) s.list ask ≡ None → IsAsked ask r
    → book_step rules s ask ≡ record s { list = place r s.list; booked = s.booked + airtime_us r }
book_step-accepted rules s ask r e a =
    let terms : Terms = terms_at rules s in
    let fit : is_fit ask ≡ true = (accepted terms s.list ask e).fit in
    let made : reservation_of ask ≡ Some r = reservation_of-asked ask r fit a in
    let same : ask_airtime ask ≡ airtime_us r = rw (a.rate, a.len) refl in
    ap (λ (o : Option Refusal). after_answer o s ask) e
    ∙ ap (λ (o : Option Reservation). record s { list = placed o s.list; booked = s.booked + ask_airtime ask }) made
    ∙ ap (λ (n : ℕ). record s { list = place r s.list; booked = s.booked + n }) same
