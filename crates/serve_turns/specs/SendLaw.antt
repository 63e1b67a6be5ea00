use Rattle.std.specs.Prelude.{ℕ, ◌≡◌, true, ⊤, List, [], ◌∷◌, ◌++◌, Contains, Option, Some, None}
use Rattle.std.specs.List.{flat_map}
use Rattle.gateway_clock.specs.Clock.{line}
use Rattle.forwarder_packets.specs.PullResp.{pull_resp_of}
use Rattle.forwarder_sessions.specs.declared.session.Endpoint.{Endpoint}
use Rattle.forwarder_sessions.specs.Sessions.{Known}
use Rattle.server_core.specs.declared.event.Event.TheVariants.{Pass}
use Rattle.server_core.specs.Entries.{event_lines}
use Rattle.server_desk.specs.Register.{Device, device_with}
use Rattle.serve_journal.specs.declared.entry.Entry.{Entry}
use Rattle.serve_journal.specs.declared.entry.Entry.TheVariants as says
use Rattle.serve_downlinks.specs.declared.fate.Fate.{Fate}
use Rattle.serve_downlinks.specs.declared.fate.Fate.TheVariants.{Barred, Unreachable, Sendable}
use Rattle.serve_downlinks.specs.Downlinks.{ToSend, downlinks}
use Rattle.serve_downlinks.specs.Fates.{fate_of, forwarder_of}
use Rattle.serve_downlinks.specs.Datagram.{token_of, asked_for}
use Rattle.serve_downlinks.specs.Batch.{addr_in, batch_entries, batch_text, floor_of, sent_of, session_at, taken_entries}
use Rattle.serve_downlinks.specs.BatchLaw.{AreInOrder}
use Rattle.serve_turns.specs.Control.{Arrival}
use Rattle.serve_turns.specs.Effects.{Effect, Appends, Syncs, Sends}
use Rattle.serve_turns.specs.Kept.{Kept}
use Rattle.serve_turns.specs.Life.{Life, after_event}
use Rattle.serve_turns.specs.Sending.{known_then, sendable}
use Rattle.serve_turns.specs.Turn.{Answered, acts, after_came, ticking}

-- What holds of each PULL_RESP that a server sends.

-- of each PULL_RESP among these effects, by what was done before it
abbrev pub EachSend : (List Effect → Endpoint → List ℕ → Type 0) → List Effect → List Effect → Type 0
EachSend P done [] = ⊤
EachSend P done (Sends to bytes went ∷ more) = P done to bytes × EachSend P (done ++ Sends to bytes went ∷ []) more
EachSend P done (effect ∷ more) = EachSend P (done ++ effect ∷ []) more

-- what a batch says of a downlink whose gateway, device and device's session are known: before it what its gateway's clock shows at
-- least, then its device with the next downlink counter, then what was taken and what is sent
abbrev pub IsTold : ℕ → Kept → Life → ToSend → List Entry → Type 0
IsTold now k l d batch =
    (f : Known) (addr : ℕ) (found : ℕ × Device) (session : List ℕ) → forwarder_of d.candidate.gateway l.known ≡ Some f
    → addr_in d.frame ≡ Some addr → device_with addr l.world.reg.devices ≡ Some found → session_at addr k.sessions ≡ Some session
    → AreInOrder (says.Clock d.candidate.gateway (line f.clock now) (floor_of d.candidate.gateway (known_then k now l).books))
    (says.Device addr session found.1.up found.1.down) (taken_entries addr d.frame) (sent_of d.candidate) batch

-- a PULL_RESP of a downlink that is among these goes to its gateway's peer; before it the batch of all that may be sent, which tells
-- it, was added to the journal's file, and the disk kept that
pub record IsBehindItsBatch (now : ℕ) (ds : List ToSend) (l : Life) (done : List Effect) (to : Endpoint) (bytes : List ℕ) : Type 0 where
  pub downlink : ToSend
  pub among : Contains ds downlink
  pub tmst : ℕ
  pub power_dbm : ℕ
  pub may : fate_of downlink l.known ≡ Sendable to tmst power_dbm
  pub is : bytes ≡ pull_resp_of (token_of downlink) (asked_for tmst power_dbm downlink)
  pub kept : Kept
  pub keeps : l.kept ≡ Some kept
  pub well : kept.failed_at ≡ None
  pub batch : List Entry
  pub whole : batch ≡ batch_entries (known_then kept now l) (sendable l.known ds)
  pub told : IsTold now kept l downlink batch
  pub before : List Effect
  pub behind : List Effect
  pub written : done ≡ before ++ (Appends (batch_text batch) true ∷ Syncs true ∷ behind)

-- a server's life in a turn in which this came, once the gateways were ticked where an uplink is due
abbrev pub before_pass : (A : Type 0) → ℕ → Option Arrival → Life → Life
before_pass A now came l = ticking A now (after_came A now came l)

-- and once all that are due were answered
abbrev pub behind_pass : (A : Type 0) → ℕ → Option Arrival → Life → Life
behind_pass A now came l = after_event {A = A} (Pass now) (before_pass A now came l)

-- the downlinks among the lines that answer them
abbrev pub pass_downlinks : (A : Type 0) → ℕ → Option Arrival → Life → List ToSend
pass_downlinks A now came l = downlinks (event_lines {A = A} (before_pass A now came l).world (Pass now))

-- the law: whatever a server knows, whatever comes and whatever the world around answers, each PULL_RESP of a turn is that of a
-- downlink that answers an uplink in it, to the peer of its gateway, behind a batch that tells it and that the disk keeps; and none is
-- sent where a write has failed before
abbrev pub EverySendIsKept : Type 0 → Type 0
EverySendIsKept A =
    (now : ℕ) (came : Option Arrival) (r : Answered) (l : Life)
    → EachSend (λ done to bytes. IsBehindItsBatch now (pass_downlinks A now came l) (behind_pass A now came l) done to bytes) []
    (acts A now came r l)

-- the PULL_RESPs among these effects, in their order, each with where it goes
abbrev pub resps_in : List Effect → List (Endpoint × List ℕ)
resps_in [] = []
resps_in (Sends to bytes went ∷ more) = (to, bytes) ∷ resps_in more
resps_in (effect ∷ more) = resps_in more

-- that of a downlink, with its gateway's peer, where it may be sent
abbrev pub resp_by : ToSend → Fate → List (Endpoint × List ℕ)
resp_by d Barred = []
resp_by d Unreachable = []
resp_by d (Sendable peer tmst power_dbm) = (peer, pull_resp_of (token_of d) (asked_for tmst power_dbm d)) ∷ []

abbrev pub resps_of : List Known → List ToSend → List (Endpoint × List ℕ)
resps_of known ds = flat_map (λ d. resp_by d (fate_of d known)) ds

-- a list is the front of another
pub record IsFrontOf {X : Type 0} (whole front : List X) : Type 0 where
  pub rest : List X
  pub is : whole ≡ front ++ rest

-- the law: whatever a server knows, whatever comes and whatever the world around answers, the PULL_RESPs of a turn are, in their
-- order, those of the first of its downlinks that may be sent: so of no downlink there are two
abbrev pub EachIsSentOnce : Type 0 → Type 0
EachIsSentOnce A =
    (now : ℕ) (came : Option Arrival) (r : Answered) (l : Life)
    → IsFrontOf (resps_of (behind_pass A now came l).known (pass_downlinks A now came l)) (resps_in (acts A now came r l))
