use Rattle.std.specs.Prelude.{ℕ, ◌+◌, List, [], ◌∷◌, ◌++◌, slice_set, Option, Some, None, Result, Ok, Err}
use Rattle.gateway_book.specs.declared.refusal.Refusal.{Refusal}
use Rattle.gateway_book.specs.declared.cancel.CancelFault.{CancelFault}
use Rattle.gateway_book.specs.declared.cancel.CancelFault.TheVariants.{NotHere}
use Rattle.gateway_book.specs.Answer.{Terms, refusal_of, ask_airtime}
use Rattle.gateway_book.specs.Step.{terms_at, book_step, cancel_step, cancel_answer, tick_step}
use Rattle.gateway_book.specs.Book.{airtime_answer}
use Rattle.uplink_gather.specs.Gatherings.{numbered, rewritten}
use Rattle.uplink_gather.specs.declared.limits.Limits.{Limits}
use Rattle.rx_windows.specs.declared.candidate.Candidate.{Candidate}
use Rattle.answer_ticket.specs.declared.outcome.Ending.{Ending}
use Rattle.answer_ticket.specs.declared.outcome.Ending.TheVariants as ends
use Rattle.answer_ticket.specs.Job.{Job, Payload, candidate_at, ask_for}
use Rattle.server_desk.specs.declared.faults.QueueFault.{QueueFault}
use Rattle.server_desk.specs.declared.faults.DeskFault.{DeskFault}
use Rattle.server_desk.specs.declared.faults.TakeFault.{TakeFault}
use Rattle.server_desk.specs.declared.heard.Heard1.{Heard1}
use Rattle.server_desk.specs.declared.heard.DeskHeard.{DeskHeard}
use Rattle.server_desk.specs.Settings.{SettingLists}
use Rattle.server_desk.specs.Queueing.{queue_answer, queue_step}
use Rattle.server_desk.specs.Hearing.{Decision, Refuse, Join, decide, answer_to, copy_of, after_hearing}
use Rattle.server_desk.specs.Hearing as hearing
use Rattle.server_desk.specs.declared.answers.Sent.{Sent}
use Rattle.server_desk.specs.Answers.{Answer, Waiting, Open, Booked, Out, Settled}
use Rattle.server_desk.specs.Passing.{pass_answer, pass_step}
use Rattle.server_desk.specs.Taking.{take_answer, after_taking}
use Rattle.server_desk.specs.Settling.{after_settling, sent_of}
use Rattle.server_desk.specs.World.{World, Gateway, ids, known, gateway_with, opening}

-- What happens in the whole system. One step is what happens in one holding of one lock.

-- what may happen: a payload is queued for a device; a copy of an uplink is heard, and arrives at this moment; time
-- passes for the gatherings; a ticket is given for an uplink; its answer is settled; its next candidate is tried; its
-- transmission is cancelled; time passes for a gateway
pub data Step : Type 0 where
  Queue : ℕ → Payload → Step
  Hear : List ℕ → Heard1 → ℕ → Step
  Pass : ℕ → Step
  Take : ℕ → Step
  Settle : ℕ → Step
  Try : ℕ → Step
  Cancel : ℕ → Step
  Tick : ℕ → ℕ → Step

-- what is answered; None where a step asks for an answer, a candidate or a gateway that there isn't
pub data Reply : Type 0 where
  Queued : Result ℕ QueueFault → Reply
  Heard : Result DeskHeard DeskFault → Reply
  Passed : Option ℕ → Reply
  Given : Result Job TakeFault → Reply
  Ended : Option Ending → Reply
  Tried : Option (Option Refusal) → Reply
  Cancelled : Result ℕ CancelFault → Reply
  Ticked : Option ℕ → Reply

-- a step's new world and its reply
abbrev pub After : Type 0
After = World × Reply

abbrev pub queue : World → ℕ → Payload → After
queue w addr payload =
    (record w { reg = queue_step w.reg addr payload }, Queued (queue_answer w.reg addr payload))

-- an uplink that opens a gathering has an answer that waits
abbrev pub answers_after : Decision → List Answer → List Answer
answers_after (Refuse fault) answers = answers
answers_after (Join n) answers = answers
answers_after (hearing.Open o) answers = answers ++ Waiting ∷ []

abbrev pub hear_by : World → List ℕ → Heard1 → ℕ → Decision → After
hear_by w bytes heard arrived decision = (
  record w {
    reg = after_hearing decision w.reg bytes (copy_of heard) arrived;
    answers = answers_after decision w.answers;
  },
  Heard (answer_to decision w.reg),
)

abbrev pub hear : World → List ℕ → Heard1 → ℕ → After
hear w bytes heard arrived = hear_by w bytes heard arrived (decide (ids w) w.reg bytes heard arrived)

abbrev pub pass : World → ℕ → After
pass w now = (record w { reg = pass_step w.reg now }, Passed (pass_answer w.reg now))

-- a ticket that is given stands at its first candidate
abbrev pub take_by : World → ℕ → Result Job TakeFault → After
take_by w n (Err fault) = (w, Given (Err fault))
take_by w n (Ok job) = (
  record w { reg = after_taking (Ok job) n w.reg; answers = rewritten (λ a. Open 0 job) n w.answers },
  Given (Ok job),
)

abbrev pub take : World → ℕ → After
take w n = take_by w n (take_answer w.reg (known w) n)

-- how an answer that is out ends when it is settled: a ticket that is still open is given up
abbrev pub ending_of : Answer → Option Ending
ending_of Waiting = None
ending_of (Open k job) = Some ends.GivenUp
ending_of (Booked sent window carried) = Some (ends.Answered sent.gateway window sent.start sent.airtime carried)
ending_of (Out refusal) = Some (ends.Unanswered refusal)
ending_of (Settled sent) = None

abbrev pub settle_as : World → ℕ → Option Ending → After
settle_as w n None = (w, Ended None)
settle_as w n (Some ending) = (
  record w { reg = after_settling ending n w.reg; answers = rewritten (λ a. Settled (sent_of ending)) n w.answers },
  Ended (Some ending),
)

abbrev pub settle_of : World → ℕ → Option Answer → After
settle_of w n None = (w, Ended None)
settle_of w n (Some answer) = settle_as w n (ending_of answer)

abbrev pub settle : World → ℕ → After
settle w n = settle_of w n (numbered n w.answers)

-- what a gateway's answer to an ask rests on
abbrev pub terms : Gateway → Terms
terms g = terms_at g.rules g.state

-- the transmission of a candidate
abbrev pub sent_by : Job → Candidate → Sent
sent_by job c = record { gateway = c.gateway; start = c.start; airtime = ask_airtime (ask_for job c) }

-- a refused answer stands at its next candidate, or is out after its last
abbrev pub refused : ℕ → Job → Refusal → Option Candidate → Answer
refused k job refusal None = Out refusal
refused k job refusal (Some c) = Open (k + 1) job

abbrev pub tried_by : World → ℕ → ℕ → Job → Candidate → ℕ × Gateway → Option Refusal → After
tried_by w n k job c found (Some refusal) = (
  record w { answers = rewritten (λ a. refused k job refusal (candidate_at job (k + 1))) n w.answers },
  Tried (Some (Some refusal)),
)
tried_by w n k job c found None = (
  record w {
    answers = rewritten (λ a. Booked (sent_by job c) c.window c.carries) n w.answers;
    gateways = slice_set w.gateways found.0
        (record found.1 { state = book_step found.1.rules found.1.state (ask_for job c) });
  },
  Tried (Some None),
)

abbrev pub try_on : World → ℕ → ℕ → Job → Candidate → Option (ℕ × Gateway) → After
try_on w n k job c None = (w, Tried None)
try_on w n k job c (Some found) =
    tried_by w n k job c found (refusal_of (terms found.1) found.1.state.list (ask_for job c))

abbrev pub try_candidate : World → ℕ → ℕ → Job → Option Candidate → After
try_candidate w n k job None = (w, Tried None)
try_candidate w n k job (Some c) = try_on w n k job c (gateway_with c.gateway w.gateways)

abbrev pub try_of : World → ℕ → Option Answer → After
try_of w n (Some (Open k job)) = try_candidate w n k job (candidate_at job k)
try_of w n answer = (w, Tried None)

-- the gateway of the candidate at which an open answer stands is asked
abbrev pub try : World → ℕ → After
try w n = try_of w n (numbered n w.answers)

-- what was booked for an answer
abbrev pub sent_for : Answer → Option Sent
sent_for Waiting = None
sent_for (Open k job) = None
sent_for (Booked sent window carried) = Some sent
sent_for (Out refusal) = None
sent_for (Settled sent) = sent

abbrev pub cancel_at : World → ℕ → Sent → Option (ℕ × Gateway) → After
cancel_at w n sent None = (w, Cancelled (Err NotHere))
cancel_at w n sent (Some found) = (
  record w {
    gateways = slice_set w.gateways found.0 (record found.1 { state = cancel_step found.1.state n sent.start });
  },
  Cancelled (airtime_answer (cancel_answer found.1.state.floor found.1.state.list n sent.start)),
)

abbrev pub cancel_sent : World → ℕ → Option Sent → After
cancel_sent w n None = (w, Cancelled (Err NotHere))
cancel_sent w n (Some sent) = cancel_at w n sent (gateway_with sent.gateway w.gateways)

abbrev pub cancel_of : World → ℕ → Option Answer → After
cancel_of w n None = (w, Cancelled (Err NotHere))
cancel_of w n (Some answer) = cancel_sent w n (sent_for answer)

-- what was booked for an answer, also for one that is settled, is taken out of its gateway's list
abbrev pub cancel : World → ℕ → After
cancel w n = cancel_of w n (numbered n w.answers)

abbrev pub tick_at : World → ℕ → Option (ℕ × Gateway) → After
tick_at w now None = (w, Ticked None)
tick_at w now (Some found) = (
  record w { gateways = slice_set w.gateways found.0 (record found.1 { state = tick_step found.1.state now }) },
  Ticked (Some (tick_step found.1.state now).floor),
)

abbrev pub tick : World → ℕ → ℕ → After
tick w id now = tick_at w now (gateway_with id w.gateways)

-- one step
unfoldable pub step : World → Step → After
step w (Queue addr payload) = queue w addr payload
step w (Hear bytes heard arrived) = hear w bytes heard arrived
step w (Pass now) = pass w now
step w (Take n) = take w n
step w (Settle n) = settle w n
step w (Try n) = try w n
step w (Cancel n) = cancel w n
step w (Tick id now) = tick w id now

-- a world after some steps, and their replies
pub record Run : Type 0 where
  pub world : World
  pub replies : List Reply

abbrev pub after_reply : Reply → Run → Run
after_reply reply r = record r { replies = reply ∷ r.replies }

-- the steps one after another
unfoldable pub run_from : World → List Step → Run
run_from w [] = record { world = w; replies = [] }
run_from w (s ∷ ss) = after_reply (step w s).1 (run_from (step w s).0 ss)

abbrev pub run : SettingLists → Limits → List Step → Run
run settings limits steps = run_from (opening settings limits) steps
