use Rattle.std.specs.Prelude.{ℕ, ◌≡◌, ◌<◌, List, map, Result, ⊤, MatchResult, IsOkUnless, IfOk, Option, Ok, Err}
use Rattle.std.specs.List.Sorted.{IsPermutation, IsStrictlyIncreasing}
use Rattle.std.specs.Option.{option_map_or}
use Rattle.gateway_book.specs.declared.cancel.CancelFault.{CancelFault}
use Rattle.gateway_book.specs.declared.totals.Totals.{Totals}
use Rattle.gateway_book.specs.Book.{Book, airtime_answer, totals_of, ticked}
use Rattle.gateway_book.specs.Step.{cancel_answer}
use Rattle.answer_ticket.specs.declared.tried.Tried.{Tried}
use Rattle.rx_windows.specs.declared.candidate.Candidate.{Candidate}
use Rattle.answer_ticket.specs.Job.{Job, Payload}
use Rattle.answer_ticket.specs.Ticket.{Standing, candidate_of}
use Rattle.answer_ticket.specs.Tried.{TriedIs}
use Rattle.server_desk.specs.declared.setting.GatewaySetting.{GatewaySetting}
use Rattle.server_desk.specs.declared.heard.Heard1.{Heard1}
use Rattle.server_desk.specs.declared.heard.DeskHeard.{DeskHeard}
use Rattle.server_desk.specs.declared.faults.QueueFault.{QueueFault}
use Rattle.server_desk.specs.declared.faults.QueueFault.TheVariants as queueing
use Rattle.server_desk.specs.declared.faults.DeskFault.{DeskFault}
use Rattle.server_desk.specs.declared.faults.DeskFault.TheVariants as hearing
use Rattle.server_desk.specs.declared.faults.TakeFault.{TakeFault}
use Rattle.server_desk.specs.declared.faults.TakeFault.TheVariants as taking
use Rattle.server_desk.specs.Desk.{DeskView}
use Rattle.server_desk.specs.Queueing.{queue_answer}
use Rattle.server_desk.specs.Hearing.{decide, answer_to}
use Rattle.server_desk.specs.Passing.{pass_answer}
use Rattle.server_desk.specs.Taking.{take_answer}
use Rattle.server_station.specs.declared.totals_fault.TotalsFault.{TotalsFault}
use Rattle.server_station.specs.declared.totals_fault.TotalsFault.TheVariants.{UnknownGateway, Behind}

-- What the calls of a station say, after this project's profile. Behind a lock a caller knows no more than a value's type, so
-- a call that takes a gateway's lock speaks of some book that it found there.

-- what a call says, or that it found no memory for it
abbrev pub IsSaid : {X F : Type 0} → Result X F → F → Result X F → Type 0
IsSaid said memory answer =
    MatchResult said (λ _. IsOkUnless answer memory) (λ fault. answer ≡ Err fault) × IfOk answer (λ x. said ≡ Ok x)

-- what a desk answered to a payload, to a copy of an uplink and to the time
abbrev pub WasQueued : ℕ → Payload → Result ℕ QueueFault → Type 0
WasQueued addr payload answer = (old : DeskView) × IsSaid (queue_answer old.reg addr payload) queueing.NoMemory answer

-- the same of a copy that is heard
abbrev pub WasHeard : List ℕ → Heard1 → ℕ → Result DeskHeard DeskFault → Type 0
WasHeard bytes heard arrived answer =
    (old : DeskView) × IsSaid (answer_to (decide old.ids old.reg bytes heard arrived) old.reg) hearing.NoMemory answer

-- the same of time that passes
abbrev pub WasPassed : ℕ → Option ℕ → Type 0
WasPassed now answer = (old : DeskView) × (answer ≡ pass_answer old.reg now)

-- what a desk answered to one who took the number: its job, and that the ticket stands at the first candidate
abbrev pub IsGiven : Result Job TakeFault → Result Standing TakeFault → Type 0
IsGiven said answer =
    MatchResult said (λ _. IsOkUnless answer taking.NoMemory) (λ fault. answer ≡ Err fault)
    × IfOk answer (λ ticket. (said ≡ Ok ticket.job) × (ticket.at ≡ 0))

-- the same of a ticket that is asked for
abbrev pub WasTaken : ℕ → Result Standing TakeFault → Type 0
WasTaken n answer = (old : DeskView) × IsGiven (take_answer old.reg old.known n) answer

-- these are the numbers of the gateways, each once, in rising order
pub record AreInOrder (gateways : List GatewaySetting) (ids : List ℕ) : Type 0 where
  pub rising : IsStrictlyIncreasing ids
  pub same : IsPermutation (map (λ (g : GatewaySetting). g.id) gateways) ids

-- a ticket was tried on a book, which became another
abbrev pub WasTried : {A : Type 0} → Standing → Tried A → Type 0
WasTried ticket tried = (old : Book) × (new : Book) × TriedIs ticket old new tried

-- what a book answered to a cancel
abbrev pub WasAsked : ℕ → ℕ → Result ℕ CancelFault → Type 0
WasAsked number start answer = (old : Book) × (answer ≡ airtime_answer (cancel_answer old.floor old.list number start))

-- the floor that a book had after a tick at that moment: the later of its floor and the moment
abbrev pub WasTicked : ℕ → ℕ → Type 0
WasTicked now floor = (old : Book) × (floor ≡ (ticked old now).floor)

-- the gateway of the candidate at which a ticket stands; every ticket stands at one
abbrev pub gateway_to_try : Standing → ℕ
gateway_to_try ticket = option_map_or (λ (c : Candidate). c.gateway) (candidate_of ticket) 0

-- what some book has counted
abbrev pub WereCounted : Totals → Type 0
WereCounted totals = (book : Book) × (totals ≡ totals_of book)

-- of a gateway that has booked less than was seen, it is told how much
abbrev pub IsBehind : ℕ → TotalsFault → Type 0
IsBehind seen UnknownGateway = ⊤
IsBehind seen (Behind booked) = booked < seen
