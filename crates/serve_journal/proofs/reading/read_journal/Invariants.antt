use Rattle.std.proofs.Common.{length}
use Rattle.serve_journal.proofs.ReadingLemmas.{IsReadTo}
use Rattle.serve_journal.proofs.reading.read_journal.Given as goal

abbrev pub invariant-loop-batch : goal.invariant-loop-batch
invariant-loop-batch g l = IsReadTo l.bytes l.number l.state l.rest

abbrev pub decreases-loop-batch : goal.decreases-loop-batch
decreases-loop-batch g l = length l.rest
