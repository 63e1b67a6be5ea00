use Rattle.std.proofs.Common.{◌≡◌, ◌++◌, map, take}
use Rattle.book_audit.proofs.held.add_all.Given as goal

abbrev pub invariant-loop-member : goal.invariant-loop-member
invariant-loop-member g l = l.held.items ≡ l.fn.held.items ++ map (λ r. (l.gateway, r)) (take l.member-index l.members)
