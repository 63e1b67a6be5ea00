use Rattle.std.proofs.Common.{◌≡◌, take}
use Rattle.book_audit.specs.Audit.{held_by}
use Rattle.book_audit.proofs.held.held_of.Given as goal

abbrev pub invariant-loop-gateway : goal.invariant-loop-gateway
invariant-loop-gateway g l = l.held.items ≡ held_by (take l.gateway-index l.shelf)
