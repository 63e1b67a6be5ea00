use Rattle.serve_opening.proofs.Matching.{Opens}
use Rattle.serve_opening.proofs.gateway.gateways_of.Given as goal

abbrev pub invariant-loop-place : goal.invariant-loop-place
invariant-loop-place g l = Opens l.gateways l.forwarders l.fn.known.items l.place l.books.items l.highs.items l.known.items
