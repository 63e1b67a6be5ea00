use Rattle.std.specs.Prelude.{ℕ, Bool, true, false, List, [], ◌∷◌, slice_get, slice_set, Option, Some, None, Result, Ok, Err}
use Rattle.std.specs.Option.{option_map}
use Rattle.radio_airtime.specs.DataRate.{number_of}
use Rattle.gateway_clock.specs.Clock.{heard}
use Rattle.forwarder_packets.specs.Entry.{Received}
use Rattle.forwarder_packets.specs.Entries.{Read}
use Rattle.forwarder_sessions.specs.declared.received.PushDropped.{PushDropped}
use Rattle.forwarder_sessions.specs.Sessions.{Known, heard_by}
use Rattle.forwarder_sessions.specs.Received.{Tells, Dropped, Pulled_from, Pushed, Answered}
use Rattle.server_core.specs.declared.event.Event.{Event}
use Rattle.server_core.specs.declared.event.Event.TheVariants.{Hear}
use Rattle.server_desk.specs.declared.heard.Heard1.{Heard1}
use Rattle.serve_turns.specs.Names.{datagram_name, push_name, entry_name}
use Rattle.serve_turns.specs.Lines.{session_line, ack_line}
use Rattle.serve_turns.specs.Life.{Life, telling, dropping, after_copy}

-- What a server does with a datagram. A gateway is named by its place among the packet forwarders.

-- the gateway's EUI
abbrev pub eui_at : ℕ → List Known → Option (List ℕ)
eui_at place known = option_map (λ k. k.forwarder.eui) (slice_get known place)

-- a packet that a gateway heard at a moment of its own clock, as a copy of an uplink
abbrev pub copy_heard : ℕ → ℕ → Received → Heard1
copy_heard gateway at p =
    record { gateway = gateway; at = at; freq_hz = p.freq_hz; rate = number_of p.rate; snr = p.snr; rssi = p.rssi }

-- that it was heard
abbrev pub hear_event : {A : Type 0} → ℕ → ℕ → ℕ → Received → Event A
hear_event gateway at now p = Hear p.bytes (copy_heard gateway at p) now

-- where a session begins with it, that is told
abbrev pub session_lines : Bool → ℕ → ℕ → List (List ℕ)
session_lines true gateway at = session_line gateway at ∷ []
session_lines false gateway at = []

-- its gateway's clock goes on by it
abbrev pub hearing_by : ℕ → ℕ → ℕ → Known → Life → Life
hearing_by now place tmst k l = record l { known = slice_set l.known place (heard_by tmst now k) }

-- a packet that a gateway heard, placed so on its clock
abbrev pub after_placed : (A : Type 0) → ℕ → ℕ → Received → ℕ → List ℕ → ℕ → Bool → Life → Life
after_placed A now place p gateway eui at is_new l =
    after_copy {A = A} eui place (hear_event gateway at now p) (telling (session_lines is_new gateway at) l)

abbrev pub after_packet_of : (A : Type 0) → ℕ → ℕ → Received → Option Known → Life → Life
after_packet_of A now place p None l = l
after_packet_of A now place p (Some k) l =
    after_placed A now place p k.forwarder.gateway k.forwarder.eui (heard k.clock p.tmst now).at (heard k.clock p.tmst now).is_new
    (hearing_by now place p.tmst k l)

-- a packet that the gateway at a place heard
abbrev pub after_packet : (A : Type 0) → ℕ → ℕ → Received → Life → Life
after_packet A now place p l = after_packet_of A now place p (slice_get l.known place) l

-- a packet that was heard, or dropped
abbrev pub after_entry : (A : Type 0) → ℕ → ℕ → Read → Life → Life
after_entry A now place (Ok p) l = after_packet A now place p l
after_entry A now place (Err fault) l = dropping (entry_name fault) (eui_at place l.known) l

-- one after another
abbrev pub after_entries : (A : Type 0) → ℕ → ℕ → List Read → Life → Life
after_entries A now place [] l = l
after_entries A now place (r ∷ rs) l = after_entries A now place rs (after_entry A now place r l)

-- the packets of a PUSH_DATA, or why they were not read
abbrev pub after_packets : (A : Type 0) → ℕ → ℕ → Result (List Read) PushDropped → Life → Life
after_packets A now place (Ok rs) l = after_entries A now place rs l
after_packets A now place (Err fault) l = dropping (push_name fault) (eui_at place l.known) l

-- what a gateway told of a transmission
abbrev pub after_ack_of : ℕ → Option (List ℕ) → Option Known → Life → Life
after_ack_of token failed None l = l
after_ack_of token failed (Some k) l = telling (ack_line token k.forwarder.gateway failed ∷ []) l

abbrev pub after_ack : ℕ → ℕ → Option (List ℕ) → Life → Life
after_ack place token failed l = after_ack_of token failed (slice_get l.known place) l

-- what a datagram told
abbrev pub after_news : (A : Type 0) → ℕ → Tells → Life → Life
after_news A now (Dropped fault eui) l = dropping (datagram_name fault) eui l
after_news A now (Pulled_from place) l = l
after_news A now (Pushed place packets) l = after_packets A now place packets l
after_news A now (Answered place token failed) l = after_ack place token failed l
