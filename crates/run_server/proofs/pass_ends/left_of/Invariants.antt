use Rattle.std.proofs.Common.{◌≡◌, take}
use Rattle.server_workers.specs.Filing.{filing}
use Rattle.run_server.specs.PassEnds.{left_by}
use Rattle.run_server.proofs.pass_ends.left_of.Given as goal

abbrev pub invariant-loop-number : goal.invariant-loop-number
invariant-loop-number l = l.left.items ≡ left_by (filing l.filed) (take l.number-index l.numbers)
