use Rattle.std.specs.Prelude.{ℕ, ◌+◌, ◌-◌, ◌^◌, ◌≤◌, ◌<◌, Bool, true, false, not, List, nat_lt, if◌then◌else◌, max, position, Option, Some, None, option_and_then, IfSome}
use Rattle.std.specs.Str.{bytes_eq}
use Rattle.gateway_clock.specs.Clock.{Clock, opened, heard}
use Rattle.forwarder_sessions.specs.declared.session.Endpoint.{Endpoint}
use Rattle.forwarder_sessions.specs.declared.session.Forwarder.{Forwarder}
use Rattle.forwarder_sessions.specs.declared.session.Pulled.{Pulled}
use Rattle.forwarder_sessions.specs.declared.session.Newest.{Newest}

-- What a server knows of a gateway's packet forwarder (Semtech's UDP protocol for packet forwarders, version 2). All moments are in
-- microseconds.

-- the packet forwarder as the settings have it, the gateway's own clock, the last PULL_DATA, and the packet that was heard last; the
-- greatest number of an uplink of which the gateway told a copy, and the same before this session of its counter, 0 for none
pub record Known : Type 0 where
  pub forwarder : Forwarder
  pub clock : Clock
  pub pulled : Option Pulled
  pub newest : Option Newest
  pub joined : ℕ
  pub barred : ℕ

-- nothing was heard of it since the server began; its clock shows so much at least
abbrev pub resumed_session : Forwarder × ℕ → Known
resumed_session (f, high) =
    record { forwarder = f; clock = opened high; pulled = None; newest = None; joined = 0; barred = 0 }

-- nothing was ever heard of it: its clock shows 2 s at least, so that the first packet is placed at 0 or later
abbrev pub opened_session : Forwarder → Known
opened_session f = resumed_session (f, 2000000)

abbrev pub has_eui : List ℕ → Known → Bool
has_eui eui s = bytes_eq s.forwarder.eui eui

-- the place of the gateway with this EUI: the first, if several have it
abbrev pub place_of : List ℕ → List Known → Option ℕ
place_of eui known = position (has_eui eui) known

-- one address may be asked for
abbrev pub is_from : Option (List ℕ) → List ℕ → Bool
is_from None ip = true
is_from (Some own) ip = bytes_eq own ip

-- whether a datagram from there may be this gateway's
abbrev pub may_come : Forwarder → Endpoint → Bool
may_come f source = is_from f.from source.ip

-- after a PULL_DATA
abbrev pub pulled_by : Endpoint → ℕ → Known → Known
pulled_by source now s = record s { pulled = Some (record { peer = source; at = now }) }

-- how long after a PULL_DATA packets of its gateway are heard
abbrev pub pull_holds : ℕ
pull_holds = 60000000

-- whether the last PULL_DATA, if there was one, is not older
abbrev pub is_recent : ℕ → Option Pulled → Bool
is_recent now None = false
is_recent now (Some pulled) = not (nat_lt (pulled.at + pull_holds) now)

-- after a packet with this counter, which comes at a moment of the server's clock: where a session begins with it, what was told
-- before is of an earlier one
abbrev pub heard_by : ℕ → ℕ → Known → Known
heard_by tmst now s =
    record s {
      clock = (heard s.clock tmst now).clock;
      newest = Some (record { at = (heard s.clock tmst now).at; arrived = now });
      barred = if (heard s.clock tmst now).is_new then s.joined else s.barred;
    }

-- after a copy of the uplink with this number
abbrev pub joined_by : ℕ → Known → Known
joined_by number s = record s { joined = max s.joined number }

-- numbers of uplinks begin at 1 again
abbrev pub renumbered : Known → Known
renumbered s = record s { joined = 0; barred = 0 }

-- whether the gateway may answer the uplink with this number: no copy of that or of a later one is of an earlier session, in which
-- its counter stood for other moments
abbrev pub may_answer : ℕ → Known → Bool
may_answer number s = nat_lt s.barred number

-- how old the newest packet may be for the gateway's clock to be reckoned from it
abbrev pub oldest : ℕ
oldest = 2000000

-- the moment before which a gateway can't be told of a transmission in time: what its clock shows by its newest packet, and its lead
abbrev pub tick_by : ℕ → ℕ → Newest → Option ℕ
tick_by now lead newest =
    if nat_lt (newest.arrived + oldest) now then None else Some (newest.at + (now - newest.arrived) + lead)

abbrev pub tick_of : ℕ → Known → Option ℕ
tick_of now s = option_and_then (tick_by now s.forwarder.lead) s.newest

-- what is kept of each: moments and a lead that are small enough for sums of them
abbrev pub IsEarly : Newest → Type 0
IsEarly newest = (newest.at ≤ 2 ^ 63) × (newest.arrived ≤ 2 ^ 60)

pub record IsKnown (s : Known) : Type 0 where
  pub newest : IfSome s.newest IsEarly
  pub lead : s.forwarder.lead < 2 ^ 32
