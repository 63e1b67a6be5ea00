use Rattle.std.proofs.Common.{◌≡◌}
use Rattle.airbook_text.specs.ListenSteps.{progress}
use Rattle.airbook_text.proofs.ListenLemmas.{HasListened}
use Rattle.airbook_text.proofs.listener.Listener.listen.Given as goal

abbrev pub invariant-loop-turn : goal.invariant-loop-turn
invariant-loop-turn g l = record {
  station : l.listener.shift.station.value ≡ l.fn.self.shift.station.value;
  so_far : HasListened l.fn.self.shift.station.value l.devices l.turn (g.S.Source.seen l.fn.source) (g.S.Source.seen l.source)
      (progress l.listener.shift.till l.listener.shift.receipts l.listener.counts l.listener.refused)
      (g.W.ByteOut.taken l.fn.writer) (g.W.ByteOut.taken l.writer);
  calls : g.W.ByteOut.failed_calls l.writer ≡ g.W.ByteOut.failed_calls l.fn.writer;
}
