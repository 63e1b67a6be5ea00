-- What workers file of each number, and what is said of a station's answers and of its workers, once more: who loosens one has to
-- loosen it here too.
use Rattle.std.specs.Prelude.{ℕ, ◌≡◌, ◌<◌, ◌-◌, ◌^◌, Bool, true, false, List, [], ◌∷◌, Option, Some, None, Ok, map, refl}
use Rattle.std.specs.Option.{IsSomeAnd}
use Rattle.std.proofs.Common.{subst}
use Rattle.gateway_book.specs.declared.refusal.Refusal.{Refusal}
use Rattle.rx_windows.specs.declared.candidate.Candidate.{Candidate}
use Rattle.rx_windows.specs.declared.candidate.Window.{Window}
use Rattle.answer_ticket.specs.declared.outcome.Ending.{Ending}
use Rattle.answer_ticket.specs.declared.outcome.Ending.TheVariants.{Answered, Unanswered}
use Rattle.answer_ticket.specs.Ended.{answered_as}
use Rattle.answer_ticket.specs.declared.outcome.Outcome.{Outcome}
use Rattle.answer_ticket.specs.declared.tried.Receipt.{Receipt}
use Rattle.answer_ticket.specs.Job.{Job, candidate_at}
use Rattle.answer_ticket.specs.Ticket.{Standing, candidate_of}
use Rattle.answer_ticket.specs.Tried.{IsReceipt, next_of, refusal_by}
use Rattle.server_desk.specs.Desk.{DeskView}
use Rattle.server_desk.specs.Register.{is_among}
use Rattle.server_desk.specs.Taking.{take_answer}
use Rattle.server_desk.specs.declared.faults.TakeFault.TheVariants.{NotReady, Taken, Silent, Engaged, CounterSpent, NoMemory}
use Rattle.server_station.specs.declared.handled.Handled.TheVariants.{NotTaken, Settled, Stray}
use Rattle.server_station.specs.Stations.{WasTaken}
use Rattle.server_station.specs.Tries.{EndsAt, HasAnswered, IsAnswered, IsTriedOut}
use Rattle.server_workers.specs.declared.served.Served.{Served}
use Rattle.server_workers.specs.Served.{HaveServed}
use Rattle.server_workers.specs.Serving.{added_up}
use Rattle.server_workers.specs.Turns.{Turns, AreIdle}
use Rattle.server_workers.specs.Working.{may_come_later, receipts_of, outcomes_of, skipped_of, refused_of, strays_of}

-- a number is skipped where its device is engaged, or there is no memory, and refused for any other reason
skipped : map may_come_later (NotReady ∷ Taken ∷ Silent ∷ Engaged ∷ CounterSpent ∷ NoMemory ∷ [])
    ≡ false ∷ false ∷ false ∷ true ∷ false ∷ true ∷ []
skipped = refl

-- what is counted stays at the greatest number of 64 bits
counted : added_up (2 ^ 64 - 2) 5 ≡ 2 ^ 64 - 1
counted = refl

module _ {A : Type 0} (n : ℕ) (outcome : Outcome) (receipt : Receipt A) where
  -- a stray keeps its receipt and has no outcome, and its number is filed
  stray : (receipts_of (Stray outcome (Some receipt)) ≡ receipt ∷ []) × (outcomes_of {A = A} (Stray outcome (Some receipt)) ≡ [])
      × (strays_of {A = A} n (Stray outcome (Some receipt)) ≡ n ∷ [])
  stray = (refl, refl, refl)

  settled : (receipts_of (Settled outcome (Some receipt)) ≡ receipt ∷ [])
      × (outcomes_of {A = A} (Settled outcome (Some receipt)) ≡ outcome ∷ [])
      × (strays_of {A = A} n (Settled outcome (Some receipt)) ≡ [])
  settled = (refl, refl, refl)

  engaged : (skipped_of {A = A} n (NotTaken Engaged) ≡ n ∷ []) × (refused_of {A = A} n (NotTaken Engaged) ≡ [])
  engaged = (refl, refl)

  spent : (skipped_of {A = A} n (NotTaken CounterSpent) ≡ [])
      × (refused_of {A = A} n (NotTaken CounterSpent) ≡ (n, CounterSpent) ∷ [])
  spent = (refl, refl)

-- what a book of the candidate's gateway answered, memory aside, and that the gateway is one of the station's
answered : (ids : List ℕ) (job : Job) (c : Candidate) (answer : Option Refusal) (has : HasAnswered ids job c answer)
    → (is_among ids c.gateway ≡ true) × (has.book.id ≡ c.gateway) × (refusal_by has.book job c ≡ answer)
answered ids job c answer has = (has.here, has.asked, has.answered)

-- how a ticket was tried at a station of these gateways
module _ {A : Type 0} (ids : List ℕ) (job : Job) (booked : Option (Receipt A)) where
  -- all candidates of the job before the one that it ended at were refused
  before : (ending : Ending) (tried : IsTriedOut ids job ending booked) (k : ℕ) (c : Candidate) → k < tried.ticket.at
      → candidate_at tried.ticket.job k ≡ Some c
      → (tried.ticket.job ≡ job) × ((refusal : Refusal) × HasAnswered ids tried.ticket.job c (Some refusal))
  before ending tried k c l e = (tried.own, tried.before k c l e)

  module _ (c : Candidate) where
    -- where it was booked, that one was accepted: it is the answer, and the receipt is its own
    accepted : (gateway : ℕ) (window : Window) (start airtime : ℕ) (carried : Bool)
        → (tried : IsTriedOut ids job (Answered gateway window start airtime carried) booked) → candidate_of tried.ticket ≡ Some c
        → HasAnswered ids tried.ticket.job c None × (Answered gateway window start airtime carried ≡ answered_as c)
        × IsSomeAnd booked (IsReceipt tried.ticket.job c)
    accepted gateway window start airtime carried tried e =
        let ended = subst (λ o. IsSomeAnd o
        (λ x. EndsAt ids tried.ticket x (Answered gateway window start airtime carried) booked)) e tried.ended in
        (ended.accepted, ended.ended, ended.receipt)

    -- where it was refused last, that one was refused so, none stands behind it, and nothing was booked
    refused : (refusal : Refusal) (tried : IsTriedOut ids job (Unanswered refusal) booked) → candidate_of tried.ticket ≡ Some c
        → HasAnswered ids tried.ticket.job c (Some refusal) × (candidate_of (next_of tried.ticket) ≡ None) × (booked ≡ None)
    refused refusal tried e =
        let ended = subst (λ o. IsSomeAnd o (λ x. EndsAt ids tried.ticket x (Unanswered refusal) booked)) e tried.ended in
        (ended.refused, ended.last, ended.unbooked)

  -- some desk gave the ticket for that number, which was tried so
  given : (n : ℕ) (ending : Ending) (answered : IsAnswered ids n ending booked)
      → WasTaken n (Ok answered.given) × IsTriedOut ids answered.given.job ending booked
  given n ending answered = (answered.taken, answered.tried)

  -- a ticket that a desk gave is for what it said, and stands at its first candidate
  taken : (n : ℕ) (t : Standing) → WasTaken n (Ok t)
      → (old : DeskView) × (take_answer old.reg old.known n ≡ Ok t.job) × (t.at ≡ 0)
  taken n t was = (was.0, was.1.1.0, was.1.1.1)

-- where nobody got a ticket, no try went on at a gate that didn't let it in
overrun : {B A : Type 0} (given : List ℕ) (turns : Turns A) (served : Served B A) → HaveServed given turns served
    → AreIdle turns → served.overrun ≡ 0
overrun given turns served have = have.idle
