use Rattle.std.specs.Prelude.{ℕ, ◌≡◌, ◌+◌, Bool, true, false, List, Option, Some, None, Err}
use Rattle.std.specs.Option.{IsSomeAnd}
use Rattle.radio_airtime.specs.TimeOnAir.{airtime_of}
use Rattle.rx_windows.specs.declared.candidate.Window.{Window}
use Rattle.air_ledger.specs.Tills.{Holding}
use Rattle.answer_ticket.specs.declared.outcome.Ending.{Ending}
use Rattle.answer_ticket.specs.declared.outcome.Ending.TheVariants.{Answered, Unanswered, GivenUp}
use Rattle.answer_ticket.specs.declared.outcome.Outcome.{Outcome}
use Rattle.answer_ticket.specs.declared.tried.Receipt.{Receipt}
use Rattle.answer_ticket.specs.Ended.{IsOfCandidate}
use Rattle.server_desk.specs.declared.faults.TakeFault.{TakeFault}
use Rattle.server_desk.specs.Airtime.{airtime_of_ending}
use Rattle.answer_ticket.specs.declared.tried.TriedOut.{TriedOut}
use Rattle.server_station.specs.declared.handled.Handled.{Handled}
use Rattle.server_station.specs.declared.handled.Handled.TheVariants.{NotTaken, Settled, Stray}
use Rattle.server_station.specs.Stations.{WasTaken}
use Rattle.server_station.specs.Tries.{IsAnswered}

-- What becomes of an uplink that is taken up once, after this project's profile.

-- the receipt of an answer that was booked so: its reservation starts where the answer does, and is on air as long
pub record IsReceiptOf {A : Type 0} (n id : ℕ) (rx : Window) (start airtime : ℕ) (r : Receipt A) : Type 0 where
  pub number : r.number ≡ n
  pub gateway : r.gateway ≡ id
  pub window : r.window ≡ rx
  pub reserved : r.reservation.number ≡ n
  pub starts : r.reservation.start ≡ start
  pub on_air : airtime_of r.reservation.rate r.reservation.len ≡ airtime

-- an answer that was booked has a receipt, and no other has one
abbrev pub GoesWith : {A : Type 0} → ℕ → Ending → Option (Receipt A) → Type 0
GoesWith n (Answered gateway window start airtime carried) receipt =
    IsSomeAnd receipt (λ r. IsReceiptOf n gateway window start airtime r)
GoesWith n (Unanswered refusal) receipt = receipt ≡ None
GoesWith n GivenUp receipt = receipt ≡ None

-- what is left of the ticket for this number
pub record IsEndOf {A : Type 0} (n : ℕ) (ended : TriedOut A) : Type 0 where
  pub number : ended.stub.number ≡ n
  pub receipt : GoesWith n ended.stub.result ended.receipt

-- the answer to this number was settled, and its airtime counted with the till
pub record IsTallied {A : Type 0} (ids : List ℕ) (n : ℕ) (old new : Holding) (outcome : Outcome)
    (booked : Option (Receipt A)) : Type 0 where
  pub answered : IsAnswered ids n outcome.result booked
  pub number : outcome.number ≡ n
  pub timed : IsOfCandidate outcome.result
  pub receipt : GoesWith n outcome.result booked
  pub till : new ≡ record old { amount = old.amount + airtime_of_ending outcome.result }

-- the stub of this number was handed back, and the till left as it was; what was booked has its receipt all the same
pub record IsStray {A : Type 0} (ids : List ℕ) (n : ℕ) (old new : Holding) (outcome : Outcome)
    (booked : Option (Receipt A)) : Type 0 where
  pub answered : IsAnswered ids n outcome.result booked
  pub number : outcome.number ≡ n
  pub timed : IsOfCandidate outcome.result
  pub receipt : GoesWith n outcome.result booked
  pub till : new ≡ old

-- some desk gave no ticket for this number, for this fault, and the till was left as it was
pub record IsNotTaken (n : ℕ) (old new : Holding) (fault : TakeFault) : Type 0 where
  pub refused : WasTaken n (Err fault)
  pub till : new ≡ old

-- what became of the uplink with this number at a station of these gateways, and of the till
abbrev pub IsHandled : {A : Type 0} → List ℕ → ℕ → Holding → Holding → Handled A → Type 0
IsHandled ids n old new (NotTaken fault) = IsNotTaken n old new fault
IsHandled ids n old new (Settled outcome receipt) = IsTallied ids n old new outcome receipt
IsHandled ids n old new (Stray outcome receipt) = IsStray ids n old new outcome receipt

-- whether a ticket was given
abbrev pub was_taken : {A : Type 0} → Handled A → Bool
was_taken (NotTaken fault) = false
was_taken (Settled outcome receipt) = true
was_taken (Stray outcome receipt) = true

-- the receipt of what was booked
abbrev pub receipt_of : {A : Type 0} → Handled A → Option (Receipt A)
receipt_of (NotTaken fault) = None
receipt_of (Settled outcome receipt) = receipt
receipt_of (Stray outcome receipt) = receipt

-- how the answer ended, where a ticket was given
abbrev pub outcome_of : {A : Type 0} → Handled A → Option Outcome
outcome_of (NotTaken fault) = None
outcome_of (Settled outcome receipt) = Some outcome
outcome_of (Stray outcome receipt) = Some outcome
