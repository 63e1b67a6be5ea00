use Rattle.std.proofs.Common.{◌≡◌, ◌+◌, ◌++◌, length}
use Rattle.run_server.specs.WorkersRun.{run_state, AreDone}
use Rattle.run_server.proofs.station_run.Shift.answer_all.Given as goal

abbrev pub invariant-loop-event : goal.invariant-loop-event
invariant-loop-event g l = record {
  left : l.yielded ++ l.event-iterator.rest.items ≡ l.fn.events.items;
  place : l.place ≡ l.fn.first + length l.yielded;
  station : l.shift.station.value ≡ l.fn.self.station.value;
  workers : l.shift.workers ≡ l.fn.self.workers;
  done : AreDone l.fn.self.station.value l.fn.first l.yielded
      (run_state l.fn.self.till l.fn.self.receipts l.fn.self.entries.items)
      (run_state l.shift.till l.shift.receipts l.shift.entries.items);
}
