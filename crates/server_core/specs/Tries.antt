use Rattle.std.specs.Prelude.{ℕ, ◌≡◌, ◌+◌, List, [], ◌∷◌, ◌++◌, map, drop, IsTrue, IsSome, Option, Some, Ok}
use Rattle.uplink_gather.specs.Gatherings.{numbered}
use Rattle.answer_ticket.specs.declared.outcome.Ending.{Ending}
use Rattle.answer_ticket.specs.declared.outcome.Ending.TheVariants.{Answered, Unanswered}
use Rattle.answer_ticket.specs.declared.tried.Receipt.{Receipt}
use Rattle.answer_ticket.specs.Job.{Job, candidates}
use Rattle.answer_ticket.specs.Ticket.{Standing, candidate_of}
use Rattle.answer_ticket.specs.Tried.{booked_candidate, next_of}
use Rattle.answer_ticket.specs.declared.tried.TriedOut.{TriedOut}
use Rattle.server_core.specs.declared.trying.Attempt.{Attempt}
use Rattle.server_core.specs.declared.trying.Attempt.TheVariants.{Over, On}
use Rattle.server_core.specs.declared.entry.Line.{Line}
use Rattle.server_core.specs.declared.entry.Line.TheVariants as says
use Rattle.server_desk.specs.declared.answers.Known.{Known}
use Rattle.server_desk.specs.declared.answers.Known.TheVariants.{Pending}
use Rattle.server_desk.specs.Answers.{Open}
use Rattle.server_desk.specs.Settling.{is_here}
use Rattle.server_desk.specs.Desk.{desk_settled}
use Rattle.server_core.specs.DeskCalls.{told}
use Rattle.server_desk.specs.World.{World}
use Rattle.server_core.specs.Steps.{Step, Settle, Try, step}
use Rattle.server_core.specs.Steps as replies
use Rattle.server_core.specs.Schedule.{reached, up_to_first, is_accepted, given_steps}
use Rattle.server_core.specs.Entries.{lines_for, step_lines, entry_at}
use Rattle.server_core.specs.Server.{Seen, IsAt, AreBooksOf, Moves, ids_of, noting}

-- A ticket is tried on one thread, and settled.

-- the steps in which a ticket is tried, from the candidate at which it stands on
abbrev pub tries_from : World → Standing → List Step
tries_from w t = map (λ c. Try t.job.number) (up_to_first (is_accepted w t.job) (drop t.at (candidates t.job)))

-- the lines for an answer that ended so: the candidate that its receipt is for, and the frame, or why none was booked
abbrev pub end_lines : {A : Type 0} → ℕ → Ending → Option (Receipt A) → List (Line A)
end_lines n (Answered gateway window start airtime carried) (Some receipt) =
    says.Send n (booked_candidate receipt carried) ∷ says.Frame n receipt.frame ∷ []
end_lines n (Unanswered refusal) receipt = says.Unanswered n refusal ∷ []
end_lines n ending receipt = []

-- the ticket was tried until it was booked or out; what is to be told of that is told when it is settled
pub record EndsTries {A : Type 0} (w : World) (t : Standing) (old new : Seen A) (ended : TriedOut A) : Type 0 where
  pub books : AreBooksOf new.books (reached w (tries_from w t)).gateways
  pub steps : new.steps ≡ noting (tries_from w t) old.steps
  pub told : told (reached w (tries_from w t)) t.job.number ≡ Some ended.stub.result
  pub lines : step_lines w (tries_from w t)
      ++ lines_for (reached w (tries_from w t)) (Settle t.job.number) (replies.Ended (Some ended.stub.result))
      ≡ end_lines t.job.number ended.stub.result ended.receipt

-- the candidate at which it stood was refused, and another follows
pub record GoesOn {A : Type 0} (w : World) (t : Standing) (old new : Seen A) : Type 0 where
  pub books : AreBooksOf new.books (step w (Try t.job.number)).0.gateways
  pub steps : new.steps ≡ noting (Try t.job.number ∷ []) old.steps
  pub stands : numbered t.job.number (step w (Try t.job.number)).0.answers ≡ Some (Open (t.at + 1) t.job)
  pub rest : tries_from w t ≡ Try t.job.number ∷ tries_from (step w (Try t.job.number)).0 (next_of t)
  pub lines : lines_for {A = A} w (Try t.job.number) (step w (Try t.job.number)).1 ≡ []

-- a world of whose gateways these are the books, and in which this ticket is out
pub record HasTicketOut {A : Type 0} (w : World) (t : Standing) (s : Seen A) : Type 0 where
  pub books : AreBooksOf s.books w.gateways
  pub stands : numbered t.job.number w.answers ≡ Some (Open t.at t.job)

-- what tries leave as it is
pub record IsSame {A : Type 0} (old new : Seen A) : Type 0 where
  pub desk : new.desk ≡ old.desk
  pub ids : ids_of new.books ≡ ids_of old.books
  pub outcomes : new.outcomes ≡ old.outcomes

-- what is left of a ticket that was tried until it was booked or out
pub record AreTries {A : Type 0} (t : Standing) (old new : Seen A) (ended : TriedOut A) : Type 0 where
  pub same : IsSame old new
  pub number : ended.stub.number ≡ t.job.number
  pub here : IsTrue (is_here (ids_of old.books) ended.stub.result)
  pub ends : (w : World) → HasTicketOut w t old → EndsTries w t old new ended

-- what is left of a ticket that was refused and goes on to its next candidate
pub record MovesOn {A : Type 0} (t : Standing) (old new : Seen A) (next : Standing) : Type 0 where
  pub same : IsSame old new
  pub moved : next ≡ next_of t
  pub follows : IsSome (candidate_of (next_of t))
  pub goes_on : (w : World) → HasTicketOut w t old → GoesOn w t old new

-- what one try leads to
abbrev pub AttemptIs : {A : Type 0} → Standing → Seen A → Seen A → Attempt A → Type 0
AttemptIs t old new (Over ended) = AreTries t old new ended
AttemptIs t old new (On next) = MovesOn t old new next

-- what the settling of an answer makes, and what is told of it
pub record IsSettled {A : Type 0} (place : ℕ) (ended : TriedOut A) (old new : Seen A) : Type 0 where
  pub books : new.books ≡ old.books
  pub desk : new.desk ≡ desk_settled ended.stub.result ended.stub.number old.desk
  pub steps : new.steps ≡ noting (Settle ended.stub.number ∷ []) old.steps
  pub outcomes : new.outcomes ≡ old.outcomes ++ map (entry_at place) (end_lines ended.stub.number ended.stub.result ended.receipt)

-- a ticket of this number is out
abbrev pub IsGivenTo : List Known → ℕ → Type 0
IsGivenTo known n = numbered n known ≡ Some Pending

-- what a ticket's tries and its settling make
pub record IsAnswered {A : Type 0} (place : ℕ) (job : Job) (old new : Seen A) : Type 0 where
  pub books : ids_of new.books ≡ ids_of old.books
  pub ending : Ending
  pub desk : new.desk ≡ desk_settled ending job.number old.desk
  pub goes : (w : World) → IsAt w old → numbered job.number w.answers ≡ Some (Open 0 job)
      → Moves place w (given_steps w job.number (replies.Given (Ok job))) old new
