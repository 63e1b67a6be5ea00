use Rattle.std.proofs.Common.{◌≡◌, length}
use Rattle.gateway_book.proofs.SavedReading.{TakesOn}
use Rattle.gateway_book.proofs.saved_reader.next_line.Given as goal

abbrev pub invariant-loop-count : goal.invariant-loop-count
invariant-loop-count g l = record {
  taken : TakesOn (g.I.ByteIn.left l.fn.reader) (g.I.ByteIn.left l.reader) l.line;
  count : length l.line ≡ l._count;
  quiet : g.I.ByteIn.failed_calls l.reader ≡ g.I.ByteIn.failed_calls l.fn.reader;
}
