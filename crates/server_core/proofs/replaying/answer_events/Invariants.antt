use Rattle.std.proofs.Common.{◌≡◌, ◌++◌, length}
use Rattle.server_core.proofs.Words.{seen}
use Rattle.server_core.proofs.Replays.{IsReplaying}
use Rattle.server_core.proofs.replaying.answer_events.Given as goal

abbrev pub invariant-loop-event : goal.invariant-loop-event
invariant-loop-event g l = record {
  left : l.yielded ++ l.event-iterator.rest.items ≡ l.fn.events.items;
  place : l.place ≡ length l.yielded;
  run : IsReplaying l.settings (seen l.initial.server).steps l.yielded (seen l.server);
}
