use Rattle.std.proofs.Common.{◌≡◌, length}
use Rattle.text_lines.specs.Writing.{WritesAllBut}
use Rattle.text_lines.proofs.write_behind.write_all.Given as goal

abbrev pub invariant-loop-rest : goal.invariant-loop-rest
invariant-loop-rest g l = record {
  written : WritesAllBut (g.W.ByteOut.taken l.fn.writer) (g.W.ByteOut.taken l.writer) l.fn.bytes l.rest;
  quiet : g.W.ByteOut.failed_calls l.writer ≡ g.W.ByteOut.failed_calls l.fn.writer;
}

abbrev pub decreases-loop-rest : goal.decreases-loop-rest
decreases-loop-rest g l = length l.rest
