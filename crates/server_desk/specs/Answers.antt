use Rattle.std.specs.Prelude.{ℕ, Bool, true, false, Option}
use Rattle.gateway_book.specs.declared.refusal.Refusal.{Refusal}
use Rattle.rx_windows.specs.declared.candidate.Window.{Window}
use Rattle.answer_ticket.specs.Job.{Job}
pub use Rattle.server_desk.specs.declared.answers.Sent.{Sent}
pub use Rattle.server_desk.specs.declared.answers.Known.{Known}
pub use Rattle.server_desk.specs.declared.answers.Known.TheVariants.{NotGiven, Pending, Done}

-- How far the answer to an uplink is.

-- no ticket was given; one is out, and candidate k of its job is to be tried; a candidate was booked, in this window,
-- with the queue's head or without it; none was booked, the last for this reason; or the answer is settled, and keeps
-- what was booked
pub data Answer : Type 0 where
  Waiting : Answer
  Open : ℕ → Job → Answer
  Booked : Sent → Window → Bool → Answer
  Out : Refusal → Answer
  Settled : Option Sent → Answer

-- what the desk knows of an answer: whether a ticket or stub of it is out, but not what became of it
abbrev pub known_of : Answer → Known
known_of Waiting = NotGiven
known_of (Open k job) = Pending
known_of (Booked sent window carried) = Pending
known_of (Out refusal) = Pending
known_of (Settled sent) = Done sent

-- no ticket was given
abbrev pub is_not_given : Known → Bool
is_not_given NotGiven = true
is_not_given Pending = false
is_not_given (Done sent) = false

abbrev pub is_given : Known → Bool
is_given NotGiven = false
is_given Pending = true
is_given (Done sent) = false
