use Rattle.std.proofs.Common.{◌≡◌}
use Rattle.run_server.specs.WorkersRun.{HasTold}
use Rattle.run_server.proofs.station_run.Shift.tell_all.Given as goal

abbrev pub invariant-loop-answer : goal.invariant-loop-answer
invariant-loop-answer g l =
    (goal.iterator-loop-answer g).can_next l.answer-iterator
    × (goal.iterator-loop-answer g).is_finite l.answer-iterator
    × (l.self.station.value ≡ l.fn.self.station.value)
    × (l.self.workers ≡ l.fn.self.workers)
    × (l.self.till ≡ l.fn.self.till)
    × (l.self.receipts ≡ l.fn.self.receipts)
    × HasTold l.place l.yielded l.fn.self.entries.items l.self.entries.items
