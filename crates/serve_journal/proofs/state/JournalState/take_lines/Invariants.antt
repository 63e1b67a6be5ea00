use Rattle.std.proofs.Common.{length}
use Rattle.serve_journal.proofs.ReadingLemmas.{IsTakenTo}
use Rattle.serve_journal.proofs.state.JournalState.take_lines.Given as goal

abbrev pub invariant-loop-line : goal.invariant-loop-line
invariant-loop-line g l = IsTakenTo l.number l.fn.self l.lines l.next l.self l.rest

abbrev pub decreases-loop-line : goal.decreases-loop-line
decreases-loop-line g l = length l.rest
