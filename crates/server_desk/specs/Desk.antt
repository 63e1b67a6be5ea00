use Rattle.std.specs.Prelude.{ℕ, if◌then◌else◌, List, [], ◌∷◌, ◌++◌, Result, Ok, Err}
use Rattle.uplink_gather.specs.Gatherings.{rewritten}
use Rattle.answer_ticket.specs.declared.outcome.Ending.{Ending}
use Rattle.answer_ticket.specs.Job.{Job, Payload}
use Rattle.server_desk.specs.declared.heard.Heard1.{Heard1}
use Rattle.server_desk.specs.declared.faults.TakeFault.{TakeFault}
use Rattle.server_desk.specs.Register.{Register}
use Rattle.server_desk.specs.Queueing.{queue_step}
use Rattle.server_desk.specs.Hearing.{Decision, Refuse, Join, decide, register_after}
use Rattle.server_desk.specs.Hearing as hearing
use Rattle.server_desk.specs.Passing.{pass_step}
use Rattle.server_desk.specs.Answers.{Known, NotGiven, Pending}
use Rattle.server_desk.specs.Taking.{take_answer, after_taking}
use Rattle.server_desk.specs.Settling.{may_settle, after_settling, known_settled}
use Rattle.server_desk.specs.Airtime.{settled_airtime}
use Rattle.server_desk.specs.World.{World, ids, known}

-- The desk's part of the world: all but the books, and of an answer that is out no more than that it is out. What each call
-- of the desk makes of it, and that this is the world's step.

-- the desk's part of the world
pub record DeskView : Type 0 where
  pub ids : List ℕ
  pub reg : Register
  pub known : List Known

-- the desk's part of a world
abbrev pub desk_of : World → DeskView
desk_of w = record { ids = ids w; reg = w.reg; known = known w }

-- the airtime of all settled answers, as the desk knows them
abbrev pub total_of : DeskView → ℕ
total_of d = settled_airtime d.known

-- after a payload for the device with this address
abbrev pub desk_queue : DeskView → ℕ → Payload → DeskView
desk_queue d addr payload = record d { reg = queue_step d.reg addr payload }

-- of an uplink that opens a gathering no ticket was given yet
abbrev pub known_after : Decision → List Known → List Known
known_after (Refuse fault) known = known
known_after (Join n) known = known
known_after (hearing.Open o) known = known ++ NotGiven ∷ []

-- after a copy was heard
abbrev pub desk_hear : DeskView → List ℕ → Heard1 → ℕ → DeskView
desk_hear d bytes heard arrived =
    record d {
      reg = register_after d.ids d.reg bytes heard arrived;
      known = known_after (decide d.ids d.reg bytes heard arrived) d.known;
    }

-- after time has passed until now
abbrev pub desk_pass : DeskView → ℕ → DeskView
desk_pass d now = record d { reg = pass_step d.reg now }

-- after a ticket of number n was given, or refused
abbrev pub desk_taken : Result Job TakeFault → ℕ → DeskView → DeskView
desk_taken (Ok job) n d = record d { reg = after_taking (Ok job) n d.reg; known = rewritten (λ k. Pending) n d.known }
desk_taken (Err fault) n d = d

-- after a ticket of number n was asked for
abbrev pub desk_take : DeskView → ℕ → DeskView
desk_take d n = desk_taken (take_answer d.reg d.known n) n d

-- after the answer of number n, which ended so, was settled
abbrev pub desk_settled : Ending → ℕ → DeskView → DeskView
desk_settled ending n d =
    record d { reg = after_settling ending n d.reg; known = known_settled ending n d.known }

-- a stub that the desk doesn't know changes nothing
abbrev pub desk_settle : DeskView → ℕ → Ending → DeskView
desk_settle d n ending = if may_settle d.ids d.known n ending then desk_settled ending n d else d
