use Rattle.std.specs.Prelude.{ℕ, ◌+◌, List, [], ◌∷◌, ◌++◌, map, Option, Some, None, Ok, Err}
use Rattle.gateway_book.specs.Kept.{kept}
use Rattle.gateway_book.specs.Book.{Book, state_of}
use Rattle.uplink_gather.specs.Gatherings.{numbered}
use Rattle.rx_windows.specs.declared.candidate.Candidate.{Candidate}
use Rattle.answer_ticket.specs.declared.outcome.Ending.TheVariants as ends
use Rattle.answer_ticket.specs.Job.{Job, candidate_at, frame_for}
use Rattle.server_desk.specs.declared.faults.TakeFault.{TakeFault}
use Rattle.server_desk.specs.declared.faults.TakeFault.TheVariants as takes
use Rattle.server_core.specs.declared.event.Event.{Event}
use Rattle.server_core.specs.declared.event.Event.TheVariants as events
use Rattle.server_core.specs.declared.entry.Entry.{Entry}
use Rattle.server_core.specs.declared.entry.Line.{Line}
use Rattle.server_core.specs.declared.entry.Line.TheVariants as says
use Rattle.server_desk.specs.Settings.{SettingLists}
use Rattle.server_desk.specs.Answers.{Answer, Open}
use Rattle.server_desk.specs.World.{World, Gateway, opening}
use Rattle.server_core.specs.Steps.{Step, Queue, Hear, Take, Settle, Try, Cancel, Tick, Reply, Queued, Heard, Given, Ended, Tried}
use Rattle.server_core.specs.Steps.{Cancelled, Ticked, step, run}
use Rattle.server_desk.specs.UsualLimits.{usual_limits}
use Rattle.server_core.specs.Schedule.{reached, event_steps, schedule}

-- The lines that answer events, by the steps that one thread makes of them and the replies to these (docs/FORMATS.md,
-- "airbook run").

-- why no ticket was given: an uplink to which no answer is owed is silent
abbrev pub not_taken : {A : Type 0} → ℕ → TakeFault → Line A
not_taken n takes.Silent = says.Silent n
not_taken n fault = says.NotTaken n fault

-- a candidate that was booked, and its frame
abbrev pub sent_as : {A : Type 0} → ℕ → Job → Option Candidate → List (Line A)
sent_as n job None = []
sent_as n job (Some c) = says.Send n c ∷ says.Frame n (frame_for job c) ∷ []

-- the candidate at which an answer stands was booked
abbrev pub sent_lines : {A : Type 0} → ℕ → Option Answer → List (Line A)
sent_lines n (Some (Open k job)) = sent_as n job (candidate_at job k)
sent_lines n answer = []

-- the lines for a step, by the world before it and its reply; what is not said here needs no line
abbrev pub lines_for : {A : Type 0} → World → Step → Reply → List (Line A)
lines_for w (Queue addr payload) (Queued (Ok count)) = says.Queued addr count ∷ []
lines_for w (Queue addr payload) (Queued (Err fault)) = says.NotQueued fault ∷ []
lines_for w (Hear bytes heard arrived) (Heard (Ok place)) = says.Heard place ∷ []
lines_for w (Hear bytes heard arrived) (Heard (Err fault)) = says.NotHeard fault ∷ []
lines_for w (Take n) (Given (Err fault)) = not_taken n fault ∷ []
lines_for w (Try n) (Tried (Some None)) = sent_lines n (numbered n w.answers)
lines_for w (Settle n) (Ended (Some (ends.Unanswered refusal))) = says.Unanswered n refusal ∷ []
lines_for w (Cancel n) (Cancelled (Ok airtime)) = says.Cancelled n airtime ∷ []
lines_for w (Cancel n) (Cancelled (Err fault)) = says.NotCancelled n fault ∷ []
lines_for w (Tick id now) (Ticked (Some floor)) = says.Floor id floor ∷ []
lines_for w (Tick id now) (Ticked None) = says.NotTicked ∷ []
lines_for w s reply = []

-- the lines for these steps, one after another
unfoldable pub step_lines : {A : Type 0} → World → List Step → List (Line A)
step_lines w [] = []
step_lines w (s ∷ ss) = lines_for w s (step w s).1 ++ step_lines (step w s).0 ss

-- the lines that answer an event
abbrev pub event_lines : {A : Type 0} → World → Event A → List (Line A)
event_lines w (events.Bad line) = says.Bad line ∷ []
event_lines w e = step_lines w (event_steps w e)

-- a line that answers the event at this place, counted from 0
abbrev pub entry_at : {A : Type 0} → ℕ → Line A → Entry A
entry_at place line = record { event = place; line = line }

-- the entries for these events, of which the first has this place
unfoldable pub entries_from : {A : Type 0} → ℕ → World → List (Event A) → List (Entry A)
entries_from place w [] = []
entries_from place w (e ∷ es) =
    map (entry_at place) (event_lines w e) ++ entries_from (place + 1) (reached w (event_steps w e)) es

-- the entries for these events at a server with these settings that has heard nothing
abbrev pub entries : {A : Type 0} → SettingLists → List (Event A) → List (Entry A)
entries settings es = entries_from 0 (opening settings usual_limits) es

-- the gateways after these events
abbrev pub gateways_after : {A : Type 0} → SettingLists → List (Event A) → List Gateway
gateways_after settings es = (run settings usual_limits (schedule settings es)).world.gateways

-- a gateway with no more of its list than what is kept at its floor
abbrev pub kept_gateway : Gateway → Gateway
kept_gateway g = record g { state = record g.state { list = kept g.state.list g.state.floor } }

-- the gateway of a book
abbrev pub gateway_of : Book → Gateway
gateway_of b = record { id = b.id; rules = b.rules; state = state_of b }
