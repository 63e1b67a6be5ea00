use Rattle.std.proofs.Common.{◌≡◌, ◌≤◌}
use Rattle.air_ledger.specs.Tills.{all_parts, gathered, together, parts_of}
use Rattle.air_ledger.proofs.till.Till.gather.Given as goal

abbrev pub invariant-loop-till : goal.invariant-loop-till
invariant-loop-till g l = (gathered l.fn.tills.items ≡ together l.whole (gathered l.tills.items))
    × (parts_of l.fn.tills.items ≤ all_parts)

abbrev pub decreases-loop-till : goal.decreases-loop-till
decreases-loop-till g l = goal.left-loop-till g l
