use Rattle.std.proofs.Common.{◌≡◌, ◌-◌}
use Rattle.text_lines.proofs.Parts.{ReadsOn}
use Rattle.text_lines.proofs.ahead.ReadAhead.next_part.Given as goal

abbrev pub invariant-loop-fault : goal.invariant-loop-fault
invariant-loop-fault g l = record {
  reads_on : ReadsOn l.fn.self (g.R.ByteIn.left l.fn.reader) l.self (g.R.ByteIn.left l.reader) l.part;
  quiet : g.R.ByteIn.failed_calls l.reader ≡ g.R.ByteIn.failed_calls l.fn.reader;
}

abbrev pub decreases-loop-fault : goal.decreases-loop-fault
decreases-loop-fault g l = 268439553 - l.self.taken
