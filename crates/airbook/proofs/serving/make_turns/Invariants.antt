use Rattle.serve_turns.specs.Turn.{IsBetweenTurns}
use Rattle.airbook.proofs.serving.make_turns.Given as goal

-- another turn can be made
abbrev pub invariant-loop : goal.invariant-loop
invariant-loop g l =
    (goal.iterator-loop g).can_next l.iterator' × (goal.iterator-loop g).is_finite l.iterator' × IsBetweenTurns l.serving
