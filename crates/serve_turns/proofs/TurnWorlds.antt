-- What a turn does to the world: the events of what came, ticks, and a pass; all else leaves it.
use Rattle.std.proofs.Common.{◌≡◌, ◌∙◌, Bool, true, false, List, [], ◌∷◌, ℕ, Option, Some, None, Result, Ok, Err, cond, map, refl, subst}
use Rattle.std.specs.Prelude.{◌-◌, is_some, nat_lt, slice_get}
use Rattle.forwarder_packets.specs.Entries.{Read}
use Rattle.forwarder_packets.specs.Entry.{Received}
use Rattle.forwarder_sessions.specs.declared.received.PushDropped.{PushDropped}
use Rattle.forwarder_sessions.specs.Received.{Tells, Dropped, Pulled_from, Pushed, Answered as Acknowledged}
use Rattle.forwarder_sessions.specs.Sessions.{Known, renumbered, tick_of}
use Rattle.server_core.specs.declared.event.Event.{Event}
use Rattle.server_core.specs.declared.event.Event.TheVariants.{Queue, Hear, Tick}
use Rattle.server_core.specs.Entries.{event_lines}
use Rattle.server_core.specs.Schedule.{event_steps, reached}
use Rattle.server_desk.specs.declared.faults.DeskFault.{DeskFault}
use Rattle.server_desk.specs.declared.heard.Heard1.{Heard1}
use Rattle.server_desk.specs.Passing.{pass_answer}
use Rattle.server_desk.specs.World.{World}
use Rattle.serve_downlinks.specs.Downlinks.{ToSend}
use Rattle.serve_journal.specs.Payload.{Waiting}
use Rattle.serve_turns.specs.declared.command.Command.{Command}
use Rattle.serve_turns.specs.declared.command.Command.TheVariants as asks
use Rattle.serve_turns.specs.declared.command.Command.TheVariants.{Report}
use Rattle.serve_turns.specs.declared.command.ToQueue.{ToQueue}
use Rattle.serve_turns.specs.declared.sending.Written.{Written}
use Rattle.serve_turns.specs.declared.sending.Written.TheVariants.{NotAppended, NotSynced, Synced}
use Rattle.serve_turns.specs.Command.{command_of, is_control}
use Rattle.serve_turns.specs.Control.{Arrival, Need, Nothing, Failing, Batch, after_command, after_control, is_met, meeting, need_for, queueing}
use Rattle.serve_turns.specs.Effects.{Packet}
use Rattle.serve_turns.specs.Kept.{Kept}
use Rattle.serve_turns.specs.Life.{Life, after_copy_as, after_event, joining, number_in, saying_drops}
use Rattle.serve_turns.specs.NewDesk.{after_desk, all_waiting, is_desk_due, reopened, with_new_desk}
use Rattle.serve_turns.specs.Queues.{after_queue, after_queues}
use Rattle.serve_turns.specs.Renewing.{after_renewal, is_to_be_renewed, renewing, renewing_if_kept}
use Rattle.serve_turns.specs.SendLaw.{behind_pass, pass_downlinks}
use Rattle.serve_turns.specs.Sending.{Asked, Delivery, after_kept_back, asked, asking, asking_at, asking_with, delivered_as, sendable, sending_if_kept}
use Rattle.serve_turns.specs.Taking.{after_ack_of, after_entries, after_entry, after_news, after_packet_of, after_packets}
use Rattle.serve_turns.specs.Turn.{Answered, after_came, after_datagram, after_pass, after_report, after_tick, after_tick_at, after_ticks, answering, comes, knowing, ticking, told_every, until_desk}

-- what is so of a world and itself, and of one world after another
module _ (R : World → World → Type 0) (same : (w : World) → R w w) (both : (u v w : World) → R u v → R v w → R u w) (A : Type 0) where
  abbrev After : Life → Life → Type 0
  After l m = R l.world m.world

  -- what comes

  module _ (hears : (w : World) (bytes : List ℕ) (heard : Heard1) (arrived : ℕ)
      → R w (reached w (event_steps {A = A} w (Hear bytes heard arrived)))) (now place : ℕ) where
    joined_on : (o : Option ℕ) (l m : Life) → After l m → After l (joining place o m)
    joined_on None l m h = h
    joined_on (Some n) l m h = h

    copy_on : (eui bytes : List ℕ) (heard : Heard1) (arrived : ℕ) (l : Life) (o : Option DeskFault)
        → After l (after_copy_as {A = A} eui place (Hear bytes heard arrived) (event_lines l.world (Hear bytes heard arrived)) l o)
    copy_on eui bytes heard arrived l None =
        let e : Event A = Hear bytes heard arrived in
        joined_on (number_in (event_lines l.world e)) l (after_event e l) (hears l.world bytes heard arrived)
    copy_on eui bytes heard arrived l (Some fault) = hears l.world bytes heard arrived

    packet_on : (p : Received) (o : Option Known) (l : Life) → After l (after_packet_of A now place p o l)
    packet_on p None l = same l.world
    packet_on p (Some k) l = copy_on k.forwarder.eui _ _ _ _ _

    entry_on : (r : Read) (l : Life) → After l (after_entry A now place r l)
    entry_on (Ok p) l = packet_on p (slice_get l.known place) l
    entry_on (Err fault) l = same l.world

    entries_on : (rs : List Read) (l : Life) → After l (after_entries A now place rs l)
    entries_on [] l = same l.world
    entries_on (r ∷ rs) l =
        let m = after_entry A now place r l in
        both l.world m.world (after_entries A now place rs m).world (entry_on r l) (entries_on rs m)

    packets_on : (rs : Result (List Read) PushDropped) (l : Life) → After l (after_packets A now place rs l)
    packets_on (Ok rs) l = entries_on rs l
    packets_on (Err fault) l = same l.world

  ack_on : (token : ℕ) (failed : Option (List ℕ)) (o : Option Known) (l : Life) → After l (after_ack_of token failed o l)
  ack_on token failed None l = same l.world
  ack_on token failed (Some k) l = same l.world

  -- what a program on the machine itself asks for

  met_world : (now : ℕ) (w : Written) (need : Need) (l : Life) → (meeting now w need l).world ≡ l.world
  met_world now w Nothing l = refl
  met_world now w Failing l = refl
  met_world now w (Batch batch) l = refl

  module _ (queues : (w : World) (addr port : ℕ) (payload : List ℕ)
      → R w (reached w (event_steps {A = A} w (Queue addr port payload)))) (now : ℕ) where
    queued_on : (q : ToQueue A) (l : Life) (t : Bool) → After l (queueing t q l)
    queued_on q l true = queues l.world q.addr q.port q.payload
    queued_on q l false = same l.world

    commanded_on : (o : Option (Command A)) (w : Written) (l : Life) → After l (after_command now o w l)
    commanded_on None w l = same l.world
    commanded_on (Some Report) w l = same l.world
    commanded_on (Some (asks.Queue q)) w l =
        let need = need_for q l in
        let m = meeting now w need l in
        subst (λ v. R v (queueing (is_met w need) q m).world) (met_world now w need l) (queued_on q m (is_met w need))

  module _ (hears : (w : World) (bytes : List ℕ) (heard : Heard1) (arrived : ℕ)
      → R w (reached w (event_steps {A = A} w (Hear bytes heard arrived))))
      (queues : (w : World) (addr port : ℕ) (payload : List ℕ)
      → R w (reached w (event_steps {A = A} w (Queue addr port payload)))) (now : ℕ) where
    news_on : (news : Tells) (l : Life) → After l (after_news A now news l)
    news_on (Dropped fault eui) l = same l.world
    news_on (Pulled_from place) l = same l.world
    news_on (Pushed place packets) l = packets_on hears now place packets l
    news_on (Acknowledged place token failed) l = ack_on token failed (slice_get l.known place) l

    arrived_on : (p : Packet) (w : Written) (l : Life) (t : Bool)
        → After l (cond t (after_control A now p w l) (after_datagram A now p l))
    arrived_on p w l true = commanded_on queues now (command_of p.bytes) w l
    arrived_on p w l false = news_on (comes now p l.known).news (knowing now p l)

    pub came_on : (came : Option Arrival) (l : Life) → After l (after_came A now came l)
    came_on None l = same l.world
    came_on (Some a) l = arrived_on a.packet a.written l (is_control a.packet)

  -- ticks

  module _ (ticks : (w : World) (gateway at : ℕ) → R w (reached w (event_steps {A = A} w (Tick gateway at)))) (now : ℕ) where
    tick_on : (gateway : ℕ) (o : Option ℕ) (l : Life) → After l (after_tick_at A gateway o l)
    tick_on gateway None l = same l.world
    tick_on gateway (Some at) l = ticks l.world gateway at

    pub ticks_on : (ks : List Known) (l : Life) → After l (after_ticks A now ks l)
    ticks_on [] l = same l.world
    ticks_on (k ∷ ks) l =
        let m = after_tick A now k l in
        both l.world m.world (after_ticks A now ks m).world (tick_on k.forwarder.gateway (tick_of now k) l) (ticks_on ks m)

  -- a new desk

  module _ (reopens : (w : World) → R w (reopened w)) (queues : (w : World) (addr port : ℕ) (payload : List ℕ)
      → R w (reached w (event_steps {A = A} w (Queue addr port payload)))) where
    pub waits_on : (qs : List (ℕ × Waiting)) (l : Life) → After l (after_queues A qs l)
    waits_on [] l = same l.world
    waits_on (q ∷ qs) l =
        let m = after_queue A q l in
        both l.world m.world (after_queues A qs m).world (queues l.world q.0 q.1.port q.1.bytes) (waits_on qs m)

    desk_by : (l : Life) (t : Bool) → After l (cond t (with_new_desk A l) l)
    desk_by l true =
        let m : Life = record l { world = reopened l.world; known = map renumbered l.known } in
        both l.world m.world (with_new_desk A l).world (reopens l.world) (waits_on (all_waiting l.world.reg.devices) m)
    desk_by l false = same l.world

    pub desk_on : (l : Life) → After l (after_desk A l)
    desk_on l = desk_by l (is_desk_due l)

-- The world behind a turn, but for a new desk, is that behind its pass, or where none is made, that of what came.

module _ (now : ℕ) (d : Delivery) (ds : List ToSend) where
  delivered_world : (written : Written) (len : ℕ) (asks : List Asked) (k : Kept) (l : Life)
      → (delivered_as written now d.went len asks k l).world ≡ l.world
  delivered_world NotAppended len asks k l = refl
  delivered_world NotSynced len asks k l = refl
  delivered_world Synced len asks k l = refl

  asking_world_at : (asks : List Asked) (k : Kept) (o : Option ℕ) (l : Life) → (asking_at now d ds asks k o l).world ≡ l.world
  asking_world_at asks k (Some at) l = refl
  asking_world_at asks k None l = delivered_world d.written _ asks k l

  asking_world : (asks : List Asked) (k : Kept) (l : Life) → (asking now d ds asks k l).world ≡ l.world
  asking_world [] k l = refl
  asking_world (a ∷ asks) k l = asking_world_at (a ∷ asks) k k.failed_at l

  asking_world_with : (asks : List Asked) (o : Option Kept) (l : Life) → (asking_with now d ds asks o l).world ≡ l.world
  asking_world_with asks None l = refl
  asking_world_with asks (Some k) l = asking_world asks k l

sending_world : (now : ℕ) (d : Delivery) (ds : List ToSend) (o : Option Kept) (l : Life)
    → (sending_if_kept now d ds o l).world ≡ l.world
sending_world now d ds None l = refl
sending_world now d ds (Some k) l =
    asking_world_with now d (sendable l.known ds) (asked l.known ds) (after_kept_back ds l).kept (after_kept_back ds l)

reported_world : (now : ℕ) (l : Life) → (after_report now l).world ≡ l.world
reported_world now l = world_if (nat_lt (now - l.told_at) told_every)
  where
    world_if : (t : Bool) → (cond t l (saying_drops (record l { told_at = now }))).world ≡ l.world
    world_if true = refl
    world_if false = refl

renewing_world : (now : ℕ) (done : Bool) (o : Option Kept) (l : Life) → (renewing_if_kept now done o l).world ≡ l.world
renewing_world now done None l = refl
renewing_world now done (Some k) l = refl

renewed_world : (now : ℕ) (done : Bool) (l : Life) → (after_renewal now done l).world ≡ l.world
renewed_world now done l = world_if (is_to_be_renewed now l.kept)
  where
    world_if : (t : Bool) → (cond t (renewing now done l) l).world ≡ l.world
    world_if true = renewing_world now done l.kept l
    world_if false = refl

module _ (A : Type 0) (now : ℕ) (came : Option Arrival) (r : Answered) (l : Life) where
  abbrev then : Life
  then = after_came A now came l

  abbrev is_due : Bool
  is_due = is_some (pass_answer then.world.reg now)

  passed_world : (t : Bool) → (cond t (answering A now r.delivery (ticking A now then)) then).world
      ≡ cond t (behind_pass A now came l).world then.world
  passed_world true =
      let m = behind_pass A now came l in
      sending_world now r.delivery (pass_downlinks A now came l) m.kept m
  passed_world false = refl

  pub turn_world : (until_desk A now came r l).world ≡ cond is_due (behind_pass A now came l).world then.world
  turn_world =
      let p = after_pass A now r.delivery then in
      renewed_world now r.renewed (after_report now p) ∙ reported_world now p ∙ passed_world is_due
