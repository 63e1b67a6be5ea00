use Rattle.std.proofs.Common.{length}
use Rattle.serve_journal.proofs.Parts.{IsOpen}
use Rattle.serve_journal.proofs.lines.next_batch.Given as goal

abbrev pub invariant-loop-line : goal.invariant-loop-line
invariant-loop-line l = IsOpen l.bytes l.rest

abbrev pub decreases-loop-line : goal.decreases-loop-line
decreases-loop-line l = length l.rest
