use Rattle.serve_turns.specs.Turn.{IsBetweenTurns}
use Rattle.restart_tests.proofs.servers.play.Given as goal

abbrev pub invariant-loop-broken : goal.invariant-loop-broken
invariant-loop-broken l = IsBetweenTurns l.serving
