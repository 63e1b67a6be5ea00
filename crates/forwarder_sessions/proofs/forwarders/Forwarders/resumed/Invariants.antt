use Rattle.std.proofs.Common.{◌≡◌, map, take}
use Rattle.forwarder_sessions.specs.Sessions.{resumed_session}
use Rattle.forwarder_sessions.proofs.forwarders.Forwarders.resumed.Given as goal

-- those so far were opened
abbrev pub invariant-loop-forwarder : goal.invariant-loop-forwarder
invariant-loop-forwarder g l = l.sessions.items ≡ map resumed_session (take l.forwarder-index l.forwarders)
