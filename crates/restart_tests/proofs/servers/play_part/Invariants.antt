use Rattle.serve_turns.specs.Turn.{IsBetweenTurns}
use Rattle.restart_tests.proofs.servers.play_part.Given as goal

abbrev pub invariant-loop-turn : goal.invariant-loop-turn
invariant-loop-turn l = IsBetweenTurns l.serving
