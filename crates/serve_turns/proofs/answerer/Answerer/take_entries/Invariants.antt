use Rattle.std.proofs.Common.{◌≡◌, ◌++◌, map}
use Rattle.forwarder_packets.specs.Seen.{received}
use Rattle.serve_turns.specs.Life.{Makes}
use Rattle.serve_turns.specs.Taking.{after_entries}
use Rattle.serve_turns.proofs.answerer.Answerer.take_entries.Given as goal

abbrev pub invariant-loop-entry : goal.invariant-loop-entry
invariant-loop-entry g l = record {
  left : l.yielded ++ l.entry-iterator.rest.items ≡ l.fn.entries.items;
  makes : Makes (after_entries g.row.A.Denot l.now l.place (map received l.yielded)) l.initial.self l.self;
}
