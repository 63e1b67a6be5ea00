use Rattle.server_core.specs.Server.{seen, IsBetweenCalls}
use Rattle.restart_tests.proofs.downlinks.passed.Given as goal

abbrev pub invariant-loop-place : goal.invariant-loop-place
invariant-loop-place g l = IsBetweenCalls (seen l.server)
