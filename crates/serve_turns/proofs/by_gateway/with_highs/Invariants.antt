use Rattle.std.proofs.Common.{◌≡◌, take, zip}
use Rattle.serve_turns.proofs.by_gateway.with_highs.Given as goal

abbrev pub invariant-loop-place : goal.invariant-loop-place
invariant-loop-place g l = l.resumed.items ≡ zip (take l.place l.forwarders) l.highs
