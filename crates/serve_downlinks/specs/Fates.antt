use Rattle.std.specs.Prelude.{ℕ, ◌==◌, List, find, if◌then◌else◌, Option, Some, None}
use Rattle.gateway_clock.specs.Clock.{tmst_of}
use Rattle.forwarder_sessions.specs.declared.session.Pulled.{Pulled}
use Rattle.forwarder_sessions.specs.Sessions.{Known, may_answer}
use Rattle.serve_downlinks.specs.declared.fate.Fate.{Fate}
use Rattle.serve_downlinks.specs.declared.fate.Fate.TheVariants.{Barred, Unreachable, Sendable}
use Rattle.serve_downlinks.specs.Downlinks.{ToSend}

-- Which downlinks may be sent.

-- what is known of the gateway with this number
abbrev pub forwarder_of : ℕ → List Known → Option Known
forwarder_of gateway known = find (λ k. k.forwarder.gateway == gateway) known

-- the gateway's datagrams go to where its last PULL_DATA came from
abbrev pub fate_with : ℕ → Option Pulled → Option ℕ → Fate
fate_with power_dbm (Some pulled) (Some tmst) = Sendable pulled.peer tmst power_dbm
fate_with power_dbm pulled tmst = Unreachable

abbrev pub fate_by : ToSend → Known → Fate
fate_by d k = if may_answer d.number k then fate_with k.forwarder.power_dbm k.pulled (tmst_of k.clock d.candidate.start) else Barred

abbrev pub fate_if_known : ToSend → Option Known → Fate
fate_if_known d None = Unreachable
fate_if_known d (Some k) = fate_by d k

abbrev pub fate_of : ToSend → List Known → Fate
fate_of d known = fate_if_known d (forwarder_of d.candidate.gateway known)
