use Rattle.std.proofs.Common.{◌≡◌, map, take}
use Rattle.forwarder_sessions.specs.Sessions.{opened_session}
use Rattle.forwarder_sessions.proofs.forwarders.Forwarders.new.Given as goal

-- those so far were opened
abbrev pub invariant-loop-forwarder : goal.invariant-loop-forwarder
invariant-loop-forwarder g l = l.sessions.items ≡ map opened_session (take l.forwarder-index l.forwarders)
