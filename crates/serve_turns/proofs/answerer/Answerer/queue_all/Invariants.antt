use Rattle.std.proofs.Common.{◌≡◌, ◌++◌}
use Rattle.serve_turns.specs.Life.{Makes}
use Rattle.serve_turns.specs.Queues.{after_queues}
use Rattle.serve_turns.proofs.answerer.Answerer.queue_all.Given as goal

abbrev pub invariant-loop-queued : goal.invariant-loop-queued
invariant-loop-queued g l = record {
  left : l.yielded ++ l.queued-iterator.rest.items ≡ l.fn.waiting.items;
  makes : Makes (after_queues g.row.A.Denot l.yielded) l.initial.self l.self;
}
