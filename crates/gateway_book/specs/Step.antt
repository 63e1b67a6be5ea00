use Rattle.std.specs.Prelude.{ℕ, ◌≡◌, ◌+◌, nat_le, Bool, true, false, ◌&&◌, is_some, refl, List, Option, Some, None, ◌==◌}
use Rattle.std.specs.Prelude.{if◌then◌else◌, not, filter, find, max, Result, Ok, Err}
use Rattle.std.proofs.lemmas.Bool.{leb-true, and_parts}
use Rattle.radio_airtime.specs.DataRate.{max_phy_of}
use Rattle.radio_bands.specs.Band.{band_of}
use Rattle.resv_list.specs.declared.reservation.Reservation.{Reservation}
use Rattle.resv_list.specs.Fit.{IsFit, last_end}
use Rattle.gateway_book.specs.declared.cancel.CancelFault.{CancelFault}
use Rattle.gateway_book.specs.declared.cancel.CancelFault.TheVariants.{Begun, NotHere}
use Rattle.resv_list.specs.Reservations.{place, airtime_us}
use Rattle.gateway_book.specs.declared.ask.Ask.{Ask}
use Rattle.gateway_book.specs.declared.refusal.Refusal.{Refusal}
use Rattle.gateway_book.specs.Answer.{Rules, Terms, ask_airtime, ask_end, refusal_of}

-- One step of a gateway, on a list that forgets nothing.

-- whether the ask is fit to become a reservation
abbrev pub is_fit : Ask → Bool
is_fit ask =
    is_some (band_of ask.freq_hz ask.rate) && nat_le ask.len (max_phy_of ask.rate) && nat_le (ask_end ask) last_end

pub is_fit-IsFit : (ask : Ask) → is_fit ask ≡ true → IsFit ask.start ask.freq_hz ask.rate ask.len
is_fit-IsFit ask h =
    let outer = and_parts (is_some (band_of ask.freq_hz ask.rate) && nat_le ask.len (max_phy_of ask.rate))
    (nat_le (ask_end ask) last_end) h in
    let inner = and_parts (is_some (band_of ask.freq_hz ask.rate)) (nat_le ask.len (max_phy_of ask.rate)) outer.0 in
    record {
      banded = inner.0;
      sized = leb-true ask.len (max_phy_of ask.rate) inner.1;
      timely = leb-true (ask_end ask) last_end outer.1;
    }

abbrev pub made_if : (ask : Ask) (t : Bool) → is_fit ask ≡ t → Option Reservation
made_if ask true e =
    Some
    (record {
      number = ask.number;
      start = ask.start;
      freq_hz = ask.freq_hz;
      rate = ask.rate;
      len = ask.len;
      fit =
          is_fit-IsFit ask e;
    })
made_if ask false e = None

-- the reservation with the asked fields, where they are fit
abbrev pub reservation_of : Ask → Option Reservation
reservation_of ask = made_if ask (is_fit ask) refl

-- the list with the asked reservation in its place
abbrev pub placed : Option Reservation → List Reservation → List Reservation
placed None l = l
placed (Some r) l = place r l

-- a gateway: its floor, all its uncancelled reservations ever, by start, and its totals
pub record State : Type 0 where
  pub floor : ℕ
  pub list : List Reservation
  pub booked : ℕ
  pub cancelled : ℕ

abbrev pub after_answer : Option Refusal → State → Ask → State
after_answer None s ask = record s { list = placed (reservation_of ask) s.list; booked = s.booked + ask_airtime ask }
after_answer (Some refusal) s ask = s

-- what its answer rests on beside the list
abbrev pub terms_at : Rules → State → Terms
terms_at rules s = record { floor = s.floor; rules = rules; booked = s.booked }

-- booking: an ask that is accepted joins the list and adds to what is booked; a refused one changes nothing
abbrev pub book_step : Rules → State → Ask → State
book_step rules s ask = after_answer (refusal_of (terms_at rules s) s.list ask) s ask

-- whether a member has this number and this start
abbrev pub is_named : ℕ → ℕ → Reservation → Bool
is_named number start r = r.number == number && (r.start == start)

-- the member that is taken out, or why there is none: it has begun, or it isn't there
abbrev pub found_or : Option Reservation → Result Reservation CancelFault
found_or None = Err NotHere
found_or (Some r) = Ok r

-- the answer to a cancel: Begun where the start is not above the floor; else the member with the number and the start,
-- or NotHere
abbrev pub cancel_answer : ℕ → List Reservation → ℕ → ℕ → Result Reservation CancelFault
cancel_answer floor l number start =
    if nat_le start floor then Err Begun else found_or (find (is_named number start) l)

-- the list without it
abbrev pub without_named : List Reservation → ℕ → ℕ → List Reservation
without_named l number start = filter (λ r. not (is_named number start r)) l

abbrev pub after_cancel : Result Reservation CancelFault → State → ℕ → ℕ → State
after_cancel (Ok r) s number start = record s { list = without_named s.list number start; cancelled = s.cancelled + airtime_us r }
after_cancel (Err fault) s number start = s

-- cancelling: the member leaves the list and adds to what is cancelled; otherwise nothing changes
abbrev pub cancel_step : State → ℕ → ℕ → State
cancel_step s number start = after_cancel (cancel_answer s.floor s.list number start) s number start

-- a tick: the floor rises, and never falls
abbrev pub tick_step : State → ℕ → State
tick_step s now = record s { floor = max s.floor now }
