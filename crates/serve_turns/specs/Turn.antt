use Rattle.std.specs.Prelude.{ℕ, ◌≡◌, ◌≢◌, ◌≤◌, ◌<◌, ◌-◌, ◌^◌, Bool, true, false, nat_lt, IfSome, is_some, if◌then◌else◌, List, [], ◌∷◌, ◌++◌, Option, Some, None}
use Rattle.forwarder_sessions.specs.declared.forwarders.Datagram.{Datagram}
use Rattle.forwarder_sessions.specs.declared.session.Endpoint.{Endpoint}
use Rattle.forwarder_sessions.specs.Sessions.{Known, tick_of}
use Rattle.forwarder_sessions.specs.Received.{Comes, received_of, known_after}
use Rattle.server_core.specs.declared.event.Event.TheVariants.{Pass, Tick}
use Rattle.server_core.specs.Entries.{event_lines}
use Rattle.server_desk.specs.Passing.{pass_answer}
use Rattle.serve_turns.specs.declared.answerer.Answerer.{Answerer}
use Rattle.serve_turns.specs.declared.sending.Written.{Written}
use Rattle.serve_turns.specs.declared.serving.Serving.{Serving}
use Rattle.serve_turns.specs.Command.{is_control}
use Rattle.serve_turns.specs.Control.{Arrival, after_control, arrival, control_effects, packet_of_arrival}
use Rattle.serve_turns.specs.Effects.{Effect, Packet, Receives, Rests, Shows, Acknowledges, Tells as TellsLines, Cuts, Adds, AddsFront}
use Rattle.serve_turns.specs.Life.{Life, after_event, saying_drops, IsAlive, IsReady}
use Rattle.serve_turns.specs.NewDesk.{after_desk, is_spent}
use Rattle.serve_turns.specs.Taking.{after_news}
use Rattle.serve_turns.specs.Sending.{Delivery, sending, sending_effects}
use Rattle.serve_turns.specs.Renewing.{after_renewal, renewal_effects}

-- One turn of a server: what it does with what came, and when its clock showed a moment.

-- something was done that rests on what the world around answered: it is ready again, its life went on so, and this happened
pub record Did {S A R X : Type 0} {C : _} (before after : Option (List Effect)) (on : X → Life → Life) (does : X → Life → List Effect)
    (old new : Answerer S A R C) : Type 0 where
  pub how : X
  pub ready : IsReady new
  pub lives : (l : Life) → IsAlive l old → IsAlive (on how l) new
  pub effects : (l : Life) → IsAlive l old → Adds before after (does how l)

-- it was cut short for want of memory: a front of it happened
pub record Broke {S A R X : Type 0} {C : _} (before after : Option (List Effect)) (does : X → Life → List Effect)
    (old : Answerer S A R C) : Type 0 where
  pub how : X
  pub effects : (l : Life) → IsAlive l old → AddsFront before after (does how l)

abbrev pub packet_of : Datagram → Packet
packet_of d = record { source = d.source; bytes = d.bytes.now }

-- what a datagram comes to
abbrev pub comes : ℕ → Packet → List Known → Comes
comes now p known = received_of known p.source now p.bytes

-- where its gateway's downlinks go is known
abbrev pub knowing : ℕ → Packet → Life → Life
knowing now p l = record l { known = known_after l.known p.source now p.bytes }

-- it is acknowledged, where it is to be
abbrev pub sent_back : Endpoint → Option (List ℕ) → List Effect
sent_back source None = []
sent_back source (Some bytes) = Acknowledges source bytes ∷ []

abbrev pub answers_to : ℕ → Packet → Life → List Effect
answers_to now p l = sent_back p.source (comes now p l.known).acknowledgement

-- what it tells is done
abbrev pub after_datagram : (A : Type 0) → ℕ → Packet → Life → Life
after_datagram A now p l = after_news A now (comes now p l.known).news (knowing now p l)

-- the same of a packet forwarder's datagram, whatever the world around answers, which is nothing
abbrev pub took : (A : Type 0) → ℕ → Packet → Written → Life → Life
took A now p written l = after_datagram A now p l

abbrev pub took_effects : ℕ → Packet → Written → Life → List Effect
took_effects now p written l = answers_to now p l

-- of a datagram, which may be that of a program on the machine itself
abbrev pub after_arrival : (A : Type 0) → ℕ → Packet → Written → Life → Life
after_arrival A now p written l = if is_control p then after_control A now p written l else after_datagram A now p l

abbrev pub arrival_effects : (A : Type 0) → ℕ → Packet → Written → Life → List Effect
arrival_effects A now p written l = if is_control p then control_effects A now p written l else answers_to now p l

-- of what came, which may be nothing
abbrev pub after_came : (A : Type 0) → ℕ → Option Arrival → Life → Life
after_came A now None l = l
after_came A now (Some a) l = after_arrival A now a.packet a.written l

abbrev pub replied : (A : Type 0) → ℕ → Option Arrival → Life → List Effect
replied A now None l = []
replied A now (Some a) l = arrival_effects A now a.packet a.written l

-- the same by how far the batch got that it asked for, if it asked for one
abbrev pub came_in : (A : Type 0) → ℕ → Option Packet → Written → Life → Life
came_in A now came written l = after_came A now (arrival came written) l

abbrev pub came_in_effects : (A : Type 0) → ℕ → Option Packet → Written → Life → List Effect
came_in_effects A now came written l = replied A now (arrival came written) l

-- a gateway is ticked, where its clock can be told
abbrev pub after_tick_at : (A : Type 0) → ℕ → Option ℕ → Life → Life
after_tick_at A gateway None l = l
after_tick_at A gateway (Some at) l = after_event {A = A} (Tick gateway at) l

abbrev pub after_tick : (A : Type 0) → ℕ → Known → Life → Life
after_tick A now k l = after_tick_at A k.forwarder.gateway (tick_of now k) l

abbrev pub after_ticks : (A : Type 0) → ℕ → List Known → Life → Life
after_ticks A now [] l = l
after_ticks A now (k ∷ ks) l = after_ticks A now ks (after_tick A now k l)

-- all gateways are ticked
abbrev pub ticking : (A : Type 0) → ℕ → Life → Life
ticking A now l = after_ticks A now l.known l

-- all that are due are answered, and what answers them is sent
abbrev pub answering : (A : Type 0) → ℕ → Delivery → Life → Life
answering A now d l =
    sending now (event_lines {A = A} l.world (Pass now)) d (after_event {A = A} (Pass now) l)

abbrev pub answering_effects : (A : Type 0) → ℕ → Delivery → Life → List Effect
answering_effects A now d l =
    sending_effects now (event_lines {A = A} l.world (Pass now)) d (after_event {A = A} (Pass now) l)

-- where an uplink is due, the gateways are ticked before
abbrev pub after_pass : (A : Type 0) → ℕ → Delivery → Life → Life
after_pass A now d l = if is_some (pass_answer l.world.reg now) then answering A now d (ticking A now l) else l

abbrev pub pass_effects : (A : Type 0) → ℕ → Delivery → Life → List Effect
pass_effects A now d l = if is_some (pass_answer l.world.reg now) then answering_effects A now d (ticking A now l) else []

-- how long at least between two tellings of what was dropped, in µs
abbrev pub told_every : ℕ
told_every = 1000000

-- where that time has passed, what was dropped is told
abbrev pub after_report : ℕ → Life → Life
after_report now l = if nat_lt (now - l.told_at) told_every then l else saying_drops (record l { told_at = now })

-- what the world around answered in a turn: to the downlinks, and whether the journal was put in place that was written anew
pub record Answered : Type 0 where
  pub delivery : Delivery
  pub renewed : Bool

-- a turn up to its new desk: what came is taken in, what is due is answered and sent, what was dropped is told, and the journal is
-- written anew where that is due
abbrev pub until_desk : (A : Type 0) → ℕ → Option Arrival → Answered → Life → Life
until_desk A now came r l =
    after_renewal now r.renewed (after_report now (after_pass A now r.delivery (after_came A now came l)))

-- a turn: last the desk is made anew where that is due
abbrev pub after_turn : (A : Type 0) → ℕ → Option Arrival → Answered → Life → Life
after_turn A now came r l = after_desk A (until_desk A now came r l)

-- what happens in it behind its moment, but for the telling of its lines
abbrev pub acts : (A : Type 0) → ℕ → Option Arrival → Answered → Life → List Effect
acts A now came r l =
    replied A now came l ++ pass_effects A now r.delivery (after_came A now came l)
    ++ renewal_effects now r.renewed (after_report now (after_pass A now r.delivery (after_came A now came l)))

-- the same by what the world around answered to what came, too
abbrev pub turned : (A : Type 0) → ℕ → Option Packet → Written × Answered → Life → Life
turned A now came how l = after_turn A now (arrival came how.0) how.1 l

abbrev pub turned_effects : (A : Type 0) → ℕ → Option Packet → Written × Answered → Life → List Effect
turned_effects A now came how l = acts A now (arrival came how.0) how.1 l

-- all of this was done, or it was cut short for want of memory
abbrev pub HasActed : {S A R : Type 0} → {C : _} → ℕ → Option Packet → Option (List Effect) → Option (List Effect)
    → Answerer S A R C → Answerer S A R C → Type 0
HasActed {A = A} now came before after old new = Did before after (turned A now came) (turned_effects A now came) old new

abbrev pub HasBroken : {S A R : Type 0} → {C : _} → ℕ → Option Packet → Option (List Effect) → Option (List Effect)
    → Answerer S A R C → Type 0
HasBroken {A = A} now came before after old = Broke before after (turned_effects A now came) old

-- lines are told at once, if there are any
abbrev pub told_text : List ℕ → List Effect
told_text [] = []
told_text (c ∷ text) = TellsLines (c ∷ text) ∷ []

-- the lines of a turn were told
pub record IsTold {S A R : Type 0} {C : _} (before after : Option (List Effect)) (old new : Answerer S A R C) : Type 0 where
  pub told : Adds before after (told_text old.text.writer.items)
  pub none : new.text.writer.items ≡ []
  pub known : new.forwarders ≡ old.forwarders
  pub kept : new.keeping ≡ old.keeping
  pub told_at : new.told_at ≡ old.told_at
  pub server : new.server ≡ old.server
  pub settings : new.settings ≡ old.settings
  pub drops : new.drops ≡ old.drops
  pub counts : new.counts ≡ old.counts

-- there were lines to be told, which were not told whole
pub record IsCut {S A R : Type 0} {C : _} (before after : Option (List Effect)) (old : Answerer S A R C) : Type 0 where
  pub some : old.text.writer.items ≢ []
  pub cut : Adds before after (Cuts old.text.writer.items ∷ [])

-- between two turns no lines are left to be told
pub record IsBetweenTurns {S A R : Type 0} {C : _} (s : Serving S A R C) : Type 0 where
  pub ready : IsReady s.answerer
  pub told : s.answerer.text.writer.items ≡ []

-- without the lines that were told
abbrev pub without_text : Life → Life
without_text l = record l { text = [] }

-- whether a turn receives nothing: its desk is to be made anew, once nothing is left to be answered
abbrev pub rests : {S A R : Type 0} → {C : _} → Serving S A R C → Bool
rests s = is_spent s.answerer.forwarders.sessions.items

-- what a turn waits for first
abbrev pub waits : Bool → Option Packet → Effect
waits true came = Rests
waits false came = Receives came

-- then the clock is looked at
abbrev pub begun : Bool → ℕ → Option Packet → List Effect → List Effect
begun resting now came more = waits resting came ∷ Shows (Some now) ∷ more

-- a turn was made, in which this came, when the clock showed that moment; with it stands how far the batch got that it asked for
pub record IsTurn {S A R : Type 0} {C : _} (before after : Option (List Effect)) (old new : Serving S A R C) : Type 0 where
  pub came : Option Arrival
  pub now : ℕ
  pub early : now ≤ 2 ^ 60
  pub silent : rests old ≡ true → came ≡ None
  pub answered : Answered
  pub between : IsBetweenTurns new
  pub lives : (l : Life) → IsAlive l old.answerer → IsAlive (without_text (after_turn A now came answered l)) new.answerer
  pub effects : (l : Life) → IsAlive l old.answerer
      → Adds before after (begun (rests old) now (packet_of_arrival came)
      (acts A now came answered l ++ told_text (after_turn A now came answered l).text))

-- a turn was cut short, since the clock showed no moment, or one that is too late
pub record HasNoMoment {S A R : Type 0} {C : _} (before after : Option (List Effect)) (old : Serving S A R C) : Type 0 where
  pub came : Option Packet
  pub shown : Option ℕ
  pub late : IfSome shown (λ now. 2 ^ 60 < now)
  pub seen : Adds before after (waits (rests old) came ∷ Shows shown ∷ [])

-- there were lines to be told of a turn, which were not told whole
pub record IsLeftUntold (before after : Option (List Effect)) (shows : List ℕ → List Effect) (text : List ℕ) : Type 0 where
  pub some : text ≢ []
  pub effects : Adds before after (shows text)

-- a turn was made, in which this came, when the clock showed that moment, but for the telling of its lines
pub record IsUntold {S A R : Type 0} {C : _} (before after : Option (List Effect)) (old : Serving S A R C) : Type 0 where
  pub came : Option Arrival
  pub now : ℕ
  pub early : now ≤ 2 ^ 60
  pub silent : rests old ≡ true → came ≡ None
  pub answered : Answered
  pub untold : (l : Life) → IsAlive l old.answerer
      → IsLeftUntold before after
      (λ text. begun (rests old) now (packet_of_arrival came) (acts A now came answered l ++ Cuts text ∷ [])) (after_turn A now came answered l).text

-- a turn was cut short for want of memory: a front of what it does was done to the world around the server
pub record IsBroken {S A R : Type 0} {C : _} (before after : Option (List Effect)) (old : Serving S A R C) : Type 0 where
  pub came : Option Arrival
  pub now : ℕ
  pub early : now ≤ 2 ^ 60
  pub silent : rests old ≡ true → came ≡ None
  pub answered : Answered
  pub effects : (l : Life) → IsAlive l old.answerer
      → AddsFront before after (begun (rests old) now (packet_of_arrival came) (acts A now came answered l))
