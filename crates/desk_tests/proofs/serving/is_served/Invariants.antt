use Rattle.serve_turns.specs.Turn.{IsBetweenTurns}
use Rattle.desk_tests.proofs.serving.is_served.Given as goal

abbrev pub invariant-loop-turn : goal.invariant-loop-turn
invariant-loop-turn g l = IsBetweenTurns l.serving
