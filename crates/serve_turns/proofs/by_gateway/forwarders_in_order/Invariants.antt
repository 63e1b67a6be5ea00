use Rattle.std.proofs.Common.{◌≡◌, take}
use Rattle.serve_turns.specs.Forwarders.{forwarders_of}
use Rattle.serve_turns.proofs.by_gateway.forwarders_in_order.Given as goal

abbrev pub invariant-loop-place : goal.invariant-loop-place
invariant-loop-place g l = l.forwarders.items ≡ forwarders_of (take l.place l.gateways) l.set
