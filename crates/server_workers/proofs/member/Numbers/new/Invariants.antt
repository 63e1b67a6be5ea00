use Rattle.std.proofs.Common.{◌≡◌}
use Rattle.server_workers.proofs.member.Numbers.new.Given as goal

abbrev pub invariant-loop-number : goal.invariant-loop-number
invariant-loop-number g l = l.sent ≡ l.number-index
