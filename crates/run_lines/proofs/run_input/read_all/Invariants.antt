use Rattle.std.proofs.Common.{◌≡◌, ◌≤◌, ◌-◌, length}
use Rattle.std.specs.Io.KnownBytes.{Consumes}
use Rattle.run_lines.proofs.run_input.read_all.Given as goal

abbrev pub invariant-loop-bytes : goal.invariant-loop-bytes
invariant-loop-bytes g l = record {
  within : length l.bytes.items ≤ 268435456;
  consumed : Consumes (g.R.ByteIn.left l.fn.reader) (g.R.ByteIn.left l.reader) l.bytes.items;
  quiet : g.R.ByteIn.failed_calls l.reader ≡ g.R.ByteIn.failed_calls l.fn.reader;
}

abbrev pub decreases-loop-bytes : goal.decreases-loop-bytes
decreases-loop-bytes g l = 268435456 - length l.bytes.items
