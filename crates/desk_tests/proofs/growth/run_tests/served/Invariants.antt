use Rattle.server_core.specs.Server.{seen, IsBetweenCalls}
use Rattle.desk_tests.proofs.growth.run_tests.served.Given as goal

abbrev pub invariant-loop-place : goal.invariant-loop-place
invariant-loop-place g l = IsBetweenCalls (seen l.server)
