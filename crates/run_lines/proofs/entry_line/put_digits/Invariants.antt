use Rattle.std.proofs.Common.{◌≡◌, ◌++◌, List, ℕ}
use Rattle.std.specs.Slice.Iter.{chunks_rest, chunks_size}
use Rattle.hex.specs.Hex.{encode_lower}
use Rattle.text_lines.specs.Writing.{WritesAllBut}
use Rattle.run_lines.proofs.entry_line.put_digits.Given as goal

abbrev pub invariant-loop-few : goal.invariant-loop-few
invariant-loop-few g l = record {
  next : (goal.iterator-loop-few g).can_next l.few-iterator;
  ends : (goal.iterator-loop-few g).is_finite l.few-iterator;
  size : chunks_size l.few-iterator ≡ 32;
  done : List ℕ;
  whole : done ++ encode_lower (chunks_rest l.few-iterator) ≡ encode_lower l.fn.bytes;
  written : WritesAllBut (g.W.ByteOut.taken l.fn.writer) (g.W.ByteOut.taken l.writer) (l.fn.output ++ done) l.output;
  calls : g.W.ByteOut.failed_calls l.writer ≡ g.W.ByteOut.failed_calls l.fn.writer;
}
