use Rattle.std.specs.Prelude.{ℕ, ◌≡◌, List, slice_set, Option, Some, None, IsTrue, Result, Ok, Err, IfOk, OnErr}
use Rattle.std.specs.Option.{option_and_then}
use Rattle.gateway_book.specs.declared.refusal.Refusal.{Refusal}
use Rattle.gateway_book.specs.declared.cancel.CancelFault.{CancelFault}
use Rattle.gateway_book.specs.declared.cancel.CancelFault.TheVariants.{NotHere}
use Rattle.gateway_book.specs.Step.{cancel_answer, cancel_step}
use Rattle.gateway_book.specs.Book.{Book, state_of, with_cancelled, ticked, airtime_answer}
use Rattle.uplink_gather.specs.Gatherings.{numbered, rewritten}
use Rattle.rx_windows.specs.declared.candidate.Candidate.{Candidate}
use Rattle.answer_ticket.specs.declared.outcome.Ending.TheVariants.{GivenUp}
use Rattle.answer_ticket.specs.declared.outcome.Outcome.{Outcome}
use Rattle.answer_ticket.specs.declared.tried.Tried.{Tried}
use Rattle.answer_ticket.specs.declared.tried.Tried.TheVariants.{Booked, Next, Out, Wrong, NoMemory}
use Rattle.answer_ticket.specs.Job.{Job, candidate_at}
use Rattle.answer_ticket.specs.Ticket.{Standing}
use Rattle.answer_ticket.specs.Tried.{TriedIs, stub_of}
use Rattle.server_desk.specs.declared.answers.Sent.{Sent}
use Rattle.server_desk.specs.Answers.{Answer, Open, Settled}
use Rattle.server_desk.specs.Settling.{may_settle, after_settling, is_here, sent_of}
use Rattle.server_desk.specs.Desk.{desk_of, desk_settle}
use Rattle.server_desk.specs.World.{World, Gateway, gateway_with, ids}
use Rattle.server_core.specs.Steps.{Step, Reply, Take, Settle, Try, Cancel, Tick, step, sent_for}
use Rattle.server_core.specs.Steps as replies
use Rattle.server_core.specs.DeskCalls.{told}
use Rattle.server_core.specs.Server.{IsBookOf}

-- The calls of a ticket and of a gateway's book are the steps of the world. The premises are what the calls' own contracts
-- say of them.

-- the book of the gateway with this id, which stands at this place
pub record IsBookAt (id at : ℕ) (gateways : List Gateway) (book : Book) : Type 0 where
  pub gateway : Gateway
  pub found : gateway_with id gateways ≡ Some (at, gateway)
  pub keeps : IsBookOf book gateway

-- the step is answered so, and changed no more than this: the answers are these, and at that place stands a gateway with that
-- id, whose book is this one
pub record IsStepAt (w : World) (s : Step) (id at : ℕ) (answers : List Answer) (book : Book) (reply : Reply) : Type 0 where
  pub gateway : Gateway
  pub after : step w s ≡ (record w { answers = answers; gateways = slice_set w.gateways at gateway }, reply)
  pub found : gateway_with id (slice_set w.gateways at gateway) ≡ Some (at, gateway)
  pub keeps : IsBookOf book gateway

-- the ticket is that of its number's answer, which is open: it has its job, and stands where that stands
abbrev pub IsTicketIn : World → Standing → Type 0
IsTicketIn w t = numbered t.job.number w.answers ≡ Some (Open t.at t.job)

-- the stub is that of its number's answer, which is out: it tells how that ends, on a gateway of the world where it is on one
pub record IsStubIn (w : World) (stub : Outcome) : Type 0 where
  pub told : told w stub.number ≡ Some stub.result
  pub here : IsTrue (is_here (ids w) stub.result)

-- a try of number n is answered so, and makes this of its answer, and this of the book that was asked
abbrev pub IsTryStep : World → ℕ → ℕ → ℕ → Answer → Book → Option Refusal → Type 0
IsTryStep w n id at answer book refusal =
    IsStepAt w (Try n) id at (rewritten (λ a. answer) n w.answers) book (replies.Tried (Some refusal))

-- the try left this stub of the ticket
pub record LeavesStub (w : World) (n id at : ℕ) (stub : Outcome) (book : Book) (refusal : Option Refusal) : Type 0 where
  pub answer : Answer
  pub made : IsTryStep w n id at answer book refusal
  pub number : stub.number ≡ n
  pub stands : IsStubIn (step w (Try n)).0 stub

-- the try gave back this ticket
pub record LeavesTicket (w : World) (n id at : ℕ) (ticket : Standing) (book : Book) (refusal : Option Refusal) : Type 0 where
  pub made : IsTryStep w n id at (Open ticket.at ticket.job) book refusal
  pub number : ticket.job.number ≡ n
  pub stands : IsTicketIn (step w (Try n)).0 ticket

-- what a call of `try_on` is in the world, by what it gives: where the book was asked and found memory it is the step
abbrev pub IsTry : {A : Type 0} → World → Standing → ℕ → ℕ → Book → Book → Tried A → Type 0
IsTry w t id at old new (Booked stub receipt) = LeavesStub w t.job.number id at stub new None
IsTry w t id at old new (Next ticket refusal) = LeavesTicket w t.job.number id at ticket new (Some refusal)
IsTry w t id at old new (Out stub refusal) = LeavesStub w t.job.number id at stub new (Some refusal)
IsTry w t id at old new (Wrong ticket) = (ticket ≡ t) × (new ≡ old)
IsTry w t id at old new (NoMemory ticket) = (ticket ≡ t) × (new ≡ old)

-- the desk takes the stub, and its settling is the step: the answer is settled as the stub tells, and no gateway is asked
pub record IsSettleStep (w : World) (stub : Outcome) : Type 0 where
  pub taken : IsTrue (may_settle (desk_of w).ids (desk_of w).known stub.number stub.result)
  pub desk : desk_of (step w (Settle stub.number)).0 ≡ desk_settle (desk_of w) stub.number stub.result
  pub after : step w (Settle stub.number) ≡ (
    record w {
      reg = after_settling stub.result stub.number w.reg;
      answers = rewritten (λ a. Settled (sent_of stub.result)) stub.number w.answers;
    },
    replies.Ended (Some stub.result),
  )

-- the candidate to try next, of an answer that is open
abbrev pub next_candidate : Option Answer → Option Candidate
next_candidate (Some (Open k job)) = candidate_at job k
next_candidate answer = None

-- of number n's answer
abbrev pub next_at : World → ℕ → Option Candidate
next_at w n = next_candidate (numbered n w.answers)

-- what is booked for number n, also where its answer is not settled yet
abbrev pub sent_at : World → ℕ → Option Sent
sent_at w n = option_and_then sent_for (numbered n w.answers)

-- what `cancel` of a book promises
pub record IsCancel (n start : ℕ) (old new : Book) (result : Result ℕ CancelFault) : Type 0 where
  pub answer : result ≡ airtime_answer (cancel_answer old.floor old.list n start)
  pub cancelled : IfOk result (λ airtime. new ≡ with_cancelled old n start airtime)
  pub step : state_of new ≡ cancel_step (state_of old) n start
  pub refused : OnErr result (new ≡ old)

-- for every state of the world; A is the allocator's type
pub record BookCallsAreSteps (A : Type 0) : Type 0 where
  -- a ticket that is given is that of its answer
  pub taken : (w : World) (n : ℕ) (job : Job) → (step w (Take n)).1 ≡ replies.Given (Ok job)
      → IsTicketIn (step w (Take n)).0 (record { job = job; at = 0 })
  -- it is tried on the book of a gateway
  pub try_on : (w : World) (t : Standing) (id at : ℕ) (old new : Book) (tried : Tried A) → IsTicketIn w t
      → IsBookAt id at w.gateways old → TriedIs t old new tried → IsTry w t id at old new tried
  -- of an answer that isn't open, or at a gateway that has no book, a try changes nothing
  pub try_nothing : (w : World) (n : ℕ) → next_at w n ≡ None → step w (Try n) ≡ (w, replies.Tried None)
  pub try_nowhere : (w : World) (n : ℕ) (c : Candidate) → next_at w n ≡ Some c → gateway_with c.gateway w.gateways ≡ None
      → step w (Try n) ≡ (w, replies.Tried None)
  -- a ticket is given up
  pub give_up : (w : World) (t : Standing) → IsTicketIn w t → IsStubIn w (stub_of t.job GivenUp)
  -- what is left of it is settled
  pub settle : (w : World) (stub : Outcome) → IsStubIn w stub → IsSettleStep w stub
  -- what is booked is cancelled on its gateway's book; NotHere where nothing is booked, or on no gateway of the world
  pub cancel : (w : World) (n at : ℕ) (sent : Sent) (old new : Book) (result : Result ℕ CancelFault)
      → sent_at w n ≡ Some sent → IsBookAt sent.gateway at w.gateways old → IsCancel n sent.start old new result
      → IsStepAt w (Cancel n) sent.gateway at w.answers new (replies.Cancelled result)
  pub cancel_nothing : (w : World) (n : ℕ) → sent_at w n ≡ None → step w (Cancel n) ≡ (w, replies.Cancelled (Err NotHere))
  pub cancel_nowhere : (w : World) (n : ℕ) (sent : Sent) → sent_at w n ≡ Some sent → gateway_with sent.gateway w.gateways ≡ None
      → step w (Cancel n) ≡ (w, replies.Cancelled (Err NotHere))
  -- time passes for a gateway's book
  pub tick : (w : World) (id at now : ℕ) (old new : Book) → IsBookAt id at w.gateways old
      → new ≡ ticked old now
      → IsStepAt w (Tick id now) id at w.answers new (replies.Ticked (Some new.floor))
  pub tick_nowhere : (w : World) (id now : ℕ) → gateway_with id w.gateways ≡ None
      → step w (Tick id now) ≡ (w, replies.Ticked None)
