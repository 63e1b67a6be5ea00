use Rattle.std.proofs.Common.{◌≡◌, [], take}
use Rattle.text_lines.specs.Writing.{WritesAllBut}
use Rattle.run_lines.specs.ReplayText.{bytes_of}
use Rattle.run_lines.proofs.all_lines.write_texts.Given as goal

abbrev pub invariant-loop-text : goal.invariant-loop-text
invariant-loop-text g l = record {
  written : WritesAllBut (g.W.ByteOut.taken l.fn.writer) (g.W.ByteOut.taken l.writer) (bytes_of (take l.text-index l.texts)) [];
  calls : g.W.ByteOut.failed_calls l.writer ≡ g.W.ByteOut.failed_calls l.fn.writer;
}
