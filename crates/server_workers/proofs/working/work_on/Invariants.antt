use Rattle.server_workers.specs.Turns.{HasWorked}
use Rattle.server_workers.specs.Working.{IsMore}
use Rattle.server_workers.proofs.working.work_on.Given as goal

abbrev pub invariant-loop : goal.invariant-loop
invariant-loop g l =
    (goal.iterator-loop g).can_next l.iterator' × (goal.iterator-loop g).is_finite l.iterator' × IsMore l.initial.worked l.worked
    × HasWorked g.N.InChannel.numbers l.initial.station l.initial.worked l.worked
