use Rattle.std.proofs.Common.{◌≡◌, ◌+◌, ◌≤◌, drop}
use Rattle.air_ledger.specs.Tills.{all_parts, parts_of}
use Rattle.air_ledger.proofs.till.Till.parts_together.Given as goal

abbrev pub invariant-loop-till : goal.invariant-loop-till
invariant-loop-till g l = (parts_of l.tills ≡ l.parts + parts_of (drop l.till-index l.tills)) × (l.parts ≤ all_parts)
