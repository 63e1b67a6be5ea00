use Rattle.serve_turns.specs.Turn.{IsBetweenTurns}
use Rattle.desk_tests.proofs.serving.end_of.Given as goal

abbrev pub invariant-loop-now : goal.invariant-loop-now
invariant-loop-now l = IsBetweenTurns l.serving
