use Rattle.std.specs.Prelude.{ℕ, ◌≡◌, List, Some, None, IsTrue, Option}
use Rattle.std.specs.Option.{option_and_then}
use Rattle.uplink_gather.specs.Gatherings.{numbered}
use Rattle.answer_ticket.specs.declared.outcome.Ending.{Ending}
use Rattle.answer_ticket.specs.Job.{Payload}
use Rattle.server_desk.specs.declared.heard.Heard1.{Heard1}
use Rattle.server_desk.specs.Queueing.{queue_answer}
use Rattle.server_desk.specs.Hearing.{decide, answer_to}
use Rattle.server_desk.specs.Passing.{pass_answer}
use Rattle.server_desk.specs.Taking.{take_answer}
use Rattle.server_desk.specs.Settling.{is_here}
use Rattle.server_desk.specs.Airtime.{answered_at, answered_in}
use Rattle.server_desk.specs.World.{World, ids}
use Rattle.server_core.specs.Steps.{Queue, Hear, Pass, Take, Settle, Try, Cancel, Tick, step, ending_of}
use Rattle.server_core.specs.Steps as replies
use Rattle.server_desk.specs.Desk.{desk_of, desk_queue, desk_hear, desk_pass, desk_take, desk_settle}

-- The calls of the desk are the steps of the world on the desk's part of it.

-- how the answer of a number that is out ends, if it is out
abbrev pub told : World → ℕ → Option Ending
told w n = option_and_then ending_of (numbered n w.answers)

-- the steps of the desk change its part so and are answered so, and those of a gateway leave it as it is
pub record DeskCallsAreSteps : Type 0 where
  pub queue : (w : World) (addr : ℕ) (payload : Payload) → desk_of (step w (Queue addr payload)).0
      ≡ desk_queue (desk_of w) addr payload
  pub queued : (w : World) (addr : ℕ) (payload : Payload) → (step w (Queue addr payload)).1
      ≡ replies.Queued (queue_answer (desk_of w).reg addr payload)
  pub hear : (w : World) (bytes : List ℕ) (heard : Heard1) (arrived : ℕ)
      → desk_of (step w (Hear bytes heard arrived)).0 ≡ desk_hear (desk_of w) bytes heard arrived
  pub heard : (w : World) (bytes : List ℕ) (heard : Heard1) (arrived : ℕ)
      → (step w (Hear bytes heard arrived)).1 ≡ replies.Heard
      (answer_to (decide (desk_of w).ids (desk_of w).reg bytes heard arrived) (desk_of w).reg)
  pub pass : (w : World) (now : ℕ) → desk_of (step w (Pass now)).0 ≡ desk_pass (desk_of w) now
  pub passed : (w : World) (now : ℕ) → (step w (Pass now)).1 ≡ replies.Passed (pass_answer (desk_of w).reg now)
  pub take : (w : World) (n : ℕ) → desk_of (step w (Take n)).0 ≡ desk_take (desk_of w) n
  pub taken : (w : World) (n : ℕ) → (step w (Take n)).1 ≡ replies.Given (take_answer (desk_of w).reg (desk_of w).known n)
  -- an answer that is out, on a gateway of the settings where it is on one, is settled as it ended; where none is out, every
  -- stub is handed back
  pub settle : (w : World) (n : ℕ) (ending : Ending) → told w n ≡ Some ending → IsTrue (is_here (ids w) ending)
      → desk_of (step w (Settle n)).0 ≡ desk_settle (desk_of w) n ending
  pub settle_none : (w : World) (n : ℕ) → told w n ≡ None → (desk_of (step w (Settle n)).0 ≡ desk_of w)
      × ((ending : Ending) → desk_settle (desk_of w) n ending ≡ desk_of w)
  pub settled : (w : World) (n : ℕ) → (step w (Settle n)).1 ≡ replies.Ended (told w n)
  pub try : (w : World) (n : ℕ) → desk_of (step w (Try n)).0 ≡ desk_of w
  pub cancel : (w : World) (n : ℕ) → desk_of (step w (Cancel n)).0 ≡ desk_of w
  pub tick : (w : World) (id now : ℕ) → desk_of (step w (Tick id now)).0 ≡ desk_of w
  -- how long a gateway was on air for what the desk knows to be settled is what it was for the answers that are settled
  pub answered : (w : World) (id : ℕ) → answered_at id (desk_of w).known ≡ answered_in id w.answers
