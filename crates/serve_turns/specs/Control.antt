use Rattle.std.specs.Prelude.{ℕ, Bool, true, false, if◌then◌else◌, List, [], ◌∷◌, ◌++◌, length, map, codes, Option, Some, None, Result, Ok, Err}
use Rattle.std.specs.Option.{option_map}
use Rattle.text_lines.specs.Line.{text_of}
use Rattle.forwarder_sessions.specs.declared.session.Endpoint.{Endpoint}
use Rattle.server_core.specs.declared.event.Event.{Event}
use Rattle.server_core.specs.declared.event.Event.TheVariants as asks
use Rattle.server_core.specs.Entries.{event_lines, kept_gateway}
use Rattle.server_desk.specs.declared.faults.QueueFault.{QueueFault}
use Rattle.server_desk.specs.Queueing.{queue_answer}
use Rattle.server_desk.specs.Register.{Register}
use Rattle.run_lines.specs.EntryLine.{line_text}
use Rattle.run_lines.specs.ReplayText.{report_of}
use Rattle.serve_journal.specs.declared.entry.Entry.TheVariants as says
use Rattle.serve_downlinks.specs.Batch.{batch_text}
use Rattle.serve_turns.specs.declared.command.Command.{Command}
use Rattle.serve_turns.specs.declared.command.Command.TheVariants.{Queue, Report}
use Rattle.serve_turns.specs.declared.command.ToQueue.{ToQueue}
use Rattle.serve_turns.specs.declared.sending.Written.{Written}
use Rattle.serve_turns.specs.declared.sending.Written.TheVariants.{NotAppended, NotSynced, Synced}
use Rattle.serve_turns.specs.Command.{command_of}
use Rattle.serve_turns.specs.Effects.{Effect, Packet, Acknowledges}
use Rattle.serve_turns.specs.Kept.{Kept, with_added, with_failure}
use Rattle.serve_turns.specs.Life.{Life, after_event}
use Rattle.serve_turns.specs.Sending.{writing}

-- What a server does with what a program on the machine itself asks for. Its answer is a datagram of lines.

-- the event of a run by which a payload is queued
abbrev pub event_of : {A : Type 0} → ToQueue A → Event A
event_of q = asks.Queue q.addr q.port q.payload

-- the batch that says so
abbrev pub waits_batch : {A : Type 0} → ToQueue A → List ℕ
waits_batch q = batch_text (says.Queue q.addr (record { port = q.port; bytes = q.payload }) ∷ [])

-- none, where the payload is refused
abbrev pub batch_if_taken : {A : Type 0} → Result ℕ QueueFault → ToQueue A → Option (List ℕ)
batch_if_taken (Ok count) q = Some (waits_batch q)
batch_if_taken (Err fault) q = None

abbrev pub queue_batch : {A : Type 0} → Register → ToQueue A → Option (List ℕ)
queue_batch reg q = batch_if_taken (queue_answer reg q.addr (q.port, q.payload)) q

-- how it stands with the journal before a payload is queued: a write of it has failed, and it fails until it was put in place anew;
-- or it has to keep a batch; or nothing has to be done, since none is kept, or the payload is refused
pub data Need : Type 0 where
  Nothing : Need
  Failing : Need
  Batch : List ℕ → Need

abbrev pub batch_need : Option (List ℕ) → Need
batch_need None = Nothing
batch_need (Some batch) = Batch batch

abbrev pub need_at : Option ℕ → Option (List ℕ) → Need
need_at None batch = batch_need batch
need_at (Some at) batch = Failing

abbrev pub need_of : Option Kept → Option (List ℕ) → Need
need_of None batch = Nothing
need_of (Some k) batch = need_at k.failed_at batch

abbrev pub need_for : {A : Type 0} → ToQueue A → Life → Need
need_for q l = need_of l.kept (queue_batch l.world.reg q)

-- the disk keeps it
abbrev pub is_synced : Written → Bool
is_synced Synced = true
is_synced NotAppended = false
is_synced NotSynced = false

-- whether the event may be made, by how far the batch got
abbrev pub is_met : Written → Need → Bool
is_met w Nothing = true
is_met w Failing = false
is_met w (Batch batch) = is_synced w

-- what is done to the journal's file
abbrev pub meeting_effects : Written → Need → List Effect
meeting_effects w Nothing = []
meeting_effects w Failing = []
meeting_effects w (Batch batch) = writing w batch

-- what is known of the journal then
abbrev pub kept_by : ℕ → Written → ℕ → Kept → Kept
kept_by now Synced len k = with_added len k
kept_by now NotAppended len k = with_failure now k
kept_by now NotSynced len k = with_failure now k

abbrev pub meeting : ℕ → Written → Need → Life → Life
meeting now w Nothing l = l
meeting now w Failing l = l
meeting now w (Batch batch) l = record l { kept = option_map (kept_by now w (length batch)) l.kept }

-- the answer where that was not done
abbrev pub journal_fails : List ℕ
journal_fails = text_of (codes "no queue Journal" ∷ [])

-- the lines that answer an event
abbrev pub event_text : {A : Type 0} → Event A → Life → List ℕ
event_text e l = text_of (map line_text (event_lines l.world e))

-- then the payload is queued, and that is told and answered as a run does; else nothing is queued, nor told
abbrev pub queueing : {A : Type 0} → Bool → ToQueue A → Life → Life
queueing is_met q l = if is_met then after_event (event_of q) l else l

abbrev pub queue_reply : {A : Type 0} → Bool → ToQueue A → Life → List ℕ
queue_reply is_met q l = if is_met then event_text (event_of q) l else journal_fails

abbrev pub after_queue_command : {A : Type 0} → ℕ → ToQueue A → Written → Life → Life
after_queue_command now q w l = queueing (is_met w (need_for q l)) q (meeting now w (need_for q l) l)

abbrev pub queue_command_effects : {A : Type 0} → ℕ → Endpoint → ToQueue A → Written → Life → List Effect
queue_command_effects now source q w l =
    meeting_effects w (need_for q l)
    ++ Acknowledges source (queue_reply (is_met w (need_for q l)) q (meeting now w (need_for q l) l)) ∷ []

-- the report of a run that ends here
abbrev pub report_text : Life → List ℕ
report_text l = text_of (report_of l.counts (map kept_gateway l.world.gateways))

-- it changes nothing, whatever the world around answers
abbrev pub reporting : Written → Life → Life
reporting w l = l

abbrev pub report_effects : Endpoint → Written → Life → List Effect
report_effects source w l = Acknowledges source (report_text l) ∷ []

-- the answer to what asks for nothing
abbrev pub asks_nothing : List ℕ
asks_nothing = text_of (codes "bad 0 Syntax" ∷ [])

abbrev pub after_command : {A : Type 0} → ℕ → Option (Command A) → Written → Life → Life
after_command now None w l = l
after_command now (Some Report) w l = reporting w l
after_command now (Some (Queue q)) w l = after_queue_command now q w l

abbrev pub command_effects : {A : Type 0} → ℕ → Endpoint → Option (Command A) → Written → Life → List Effect
command_effects now source None w l = Acknowledges source asks_nothing ∷ []
command_effects now source (Some Report) w l = report_effects source w l
command_effects now source (Some (Queue q)) w l = queue_command_effects now source q w l

abbrev pub after_control : (A : Type 0) → ℕ → Packet → Written → Life → Life
after_control A now p w l = after_command {A = A} now (command_of p.bytes) w l

abbrev pub control_effects : (A : Type 0) → ℕ → Packet → Written → Life → List Effect
control_effects A now p w l = command_effects {A = A} now p.source (command_of p.bytes) w l

-- a datagram that came, and how far the batch got that it asked for: of one that asks for none the latter says nothing
pub record Arrival : Type 0 where
  pub packet : Packet
  pub written : Written

abbrev pub arrival : Option Packet → Written → Option Arrival
arrival came w = option_map (λ p. record { packet = p; written = w }) came

abbrev pub packet_of_arrival : Option Arrival → Option Packet
packet_of_arrival came = option_map (λ a. a.packet) came
