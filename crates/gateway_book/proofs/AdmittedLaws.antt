use Rattle.std.specs.Prelude.{◌≡◌, nat_lt, Bool, false, List, [], ◌∷◌, Option, Some, None, Ok, Err, Result, MatchOption, IsOkAnd}
use Rattle.std.specs.Option.{option_map, option_and_then}
use Rattle.std.proofs.Common.{refl, ap, ℕ}
use Rattle.radio_bands.specs.Band.{band_of}
use Rattle.resv_list.specs.declared.reservation.Reservation.{Reservation}
use Rattle.resv_list.specs.Reservations.{end_of, airtime_us}
use Rattle.gateway_book.specs.declared.ask.Ask.{Ask}
use Rattle.gateway_book.specs.declared.refusal.Refusal.{Refusal}
use Rattle.gateway_book.specs.declared.refusal.Refusal.TheVariants.{Passed, Taken}
use Rattle.gateway_book.specs.Answer.{Terms, ask_end, IsAsked, refused_if, no_band, too_long, past_end, passed, overlap, taken}
use Rattle.gateway_book.specs.Answer.{overfull, duty_full, first_some, refusal_of}
use Rattle.gateway_book.proofs.AnswerLaws.{first_none}

-- What `book` learns of an ask from the parts that look at it.

-- what `book` learns from an ask that is not refused
pub not_refused : (o : Option Refusal) (r : Reservation) (ask : Ask)
    → MatchOption o (IsOkAnd {E = Refusal} (Ok r) (IsAsked ask)) (λ e. Ok r ≡ Err e) → (o ≡ None) × IsAsked ask r
not_refused None r ask h = (refl, h)
not_refused (Some e) r ask h = absurd (cc)

-- a duty refusal is the answer where the rows before it have none
pub answer_duty : (terms : Terms) (l : List Reservation) (ask : Ask) (refusal : Refusal)
    → first_some (no_band ask ∷ too_long ask ∷ past_end ask ∷ []) ≡ None → nat_lt ask.start terms.floor ≡ false
    → overlap terms.rules.gap l ask.start (ask_end ask) ≡ None → duty_full l ask ≡ Some refusal → refusal_of terms l ask
    ≡ Some refusal
answer_duty terms l ask refusal f p t d =
    let a = first_none (no_band ask) (too_long ask ∷ past_end ask ∷ []) f in
    let b = first_none (too_long ask) (past_end ask ∷ []) a.1 in
    let c = first_none (past_end ask) [] b.1 in
    let e : passed terms ask ≡ None = ap (λ (u : Bool). refused_if u Passed) p in
    let g : taken terms l ask ≡ None = ap (option_map Taken) t in
    rw (a.0, b.0, c.0, e, g, d) refl

-- the rows on other members ask the same of an ask and of the reservation with its fields
pub overlap_asked : (gap : ℕ) (l : List Reservation) (ask : Ask) (r : Reservation) → IsAsked ask r
    → overlap gap l r.start (end_of r) ≡ None → overlap gap l ask.start (ask_end ask) ≡ None
overlap_asked gap l ask r a e = rw (a.start, a.rate, a.len) at e

pub duty_asked : (l : List Reservation) (ask : Ask) (r : Reservation) (refusal : Refusal) → IsAsked ask r
    → option_and_then (overfull l r.start (airtime_us r)) (band_of r.freq_hz r.rate) ≡ Some refusal
    → duty_full l ask ≡ Some refusal
duty_asked l ask r refusal a e = rw (a.start, a.freq_hz, a.rate, a.len) at e

abbrev refusing : Refusal → Result Reservation Refusal
refusing e = Err e

pub answer_match : (o : Option Refusal) (refusal : Refusal) (ask : Ask) → o ≡ Some refusal
    → MatchOption o (IsOkAnd (refusing refusal) (IsAsked ask)) (λ e. refusing refusal ≡ Err e)
answer_match o refusal ask e = rw e refl
