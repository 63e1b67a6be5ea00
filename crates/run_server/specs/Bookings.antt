use Rattle.std.specs.Prelude.{ℕ, ◌≡◌, ◌==◌, Bool, true, not, List, MatchBool}
use Rattle.std.specs.Prelude.{[], ◌∷◌, ◌++◌, length, map, filter, find, insert, slice_get, slice_set}
use Rattle.std.specs.Prelude.{Option, Some, None, Result, Ok, Err}
use Rattle.std.specs.Global.{Global}
use Rattle.std.specs.List.Sorted.{IsNonDecreasingBy, IsPermutation}
use Rattle.gateway_book.specs.declared.cancel.CancelFault.{CancelFault}
use Rattle.gateway_book.specs.declared.cancel.CancelFault.TheVariants.{NotHere}
use Rattle.answer_ticket.specs.declared.tried.Receipt.{Receipt}
use Rattle.server_core.specs.declared.entry.Line.{Line}
use Rattle.server_core.specs.declared.entry.Line.TheVariants as lines
use Rattle.server_core.specs.Server.{cancelled_line}
use Rattle.server_desk.specs.Register.{is_among}
use Rattle.server_station.specs.Stations.{WasAsked}
use Rattle.run_server.specs.Booking.{Booking, booking_of}

-- What was booked in a run with workers, after this project's profile.

-- these receipts as bookings, where the flag at the same place says whether one was cancelled
abbrev pub bookings_in : List (Receipt Global) → List Bool → List Booking
bookings_in [] flags = []
bookings_in (r ∷ receipts) [] = []
bookings_in (r ∷ receipts) (flag ∷ flags) = record { receipt = r; is_cancelled = flag } ∷ bookings_in receipts flags

-- each of these receipts has a flag, and they are by number
pub record AreFlaggedByNumber (receipts : List (Receipt Global)) (flags : List Bool) : Type 0 where
  pub same_length : length flags ≡ length receipts
  pub by_number : IsNonDecreasingBy (λ (r : Receipt Global). r.number) receipts

-- one more booking, in its place by number
abbrev pub HasOneMore : Booking → List Booking → List Booking → Type 0
HasOneMore b old new = (at : ℕ) × (new ≡ insert old at b)

-- what was booked before, and what these receipts say, in some order
abbrev pub HasMore : List (Receipt Global) → List Booking → List Booking → Type 0
HasMore receipts old new = IsPermutation (old ++ map booking_of receipts) new

-- the first booking for number n
abbrev pub booked_for : ℕ → List Booking → Option Booking
booked_for n bookings = find (λ (b : Booking). b.receipt.number == n) bookings

-- this booking, which is at this place, is cancelled, and all others are as they were
abbrev pub IsCancelledAt : ℕ → Booking → List Booking → List Booking → Type 0
IsCancelledAt at b old new = (slice_get old at ≡ Some b) × (new ≡ slice_set old at (record b { is_cancelled = true }))

-- the booking at this place is cancelled
abbrev pub IsMarkedAt : ℕ → List Booking → List Booking → Type 0
IsMarkedAt at old new = (b : Booking) × IsCancelledAt at b old new

-- the receipts of what was not cancelled
abbrev pub open_receipts : List Booking → List (Receipt Global)
open_receipts bookings =
    map (λ (b : Booking). b.receipt) (filter (λ (b : Booking). not b.is_cancelled) bookings)

-- what a station of these gateways answers to one who cancels what a receipt names: what some book says, if its gateway is one of
-- them, and else that it is not here
abbrev pub IsCancelAnswer : List ℕ → Receipt Global → Result ℕ CancelFault → Type 0
IsCancelAnswer ids r answer =
    MatchBool (is_among ids r.gateway) (WasAsked r.number r.reservation.start answer) (answer ≡ Err NotHere)

-- a booking is cancelled exactly where the answer is no fault
abbrev pub IsMarked : Booking → Result ℕ CancelFault → List Booking → List Booking → Type 0
IsMarked b (Ok airtime) old new = (at : ℕ) × IsCancelledAt at b old new
IsMarked b (Err fault) old new = new ≡ old

-- the line for one who cancels what was booked for number n at a station of these gateways, and the bookings then; where nothing
-- was booked for it, it is not here
abbrev pub IsCancelTold : List ℕ → ℕ → Option Booking → List Booking → List Booking → Line Global → Type 0
IsCancelTold ids n None old new line = (line ≡ lines.NotCancelled n NotHere) × (new ≡ old)
IsCancelTold ids n (Some b) old new line =
    (answer : Result ℕ CancelFault) × IsCancelAnswer ids b.receipt answer × (line ≡ cancelled_line n answer)
    × IsMarked b answer old new
