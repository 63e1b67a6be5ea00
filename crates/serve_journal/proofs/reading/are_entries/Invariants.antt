use Rattle.std.proofs.Common.{◌≡◌, length}
use Rattle.std.specs.List.{list_all}
use Rattle.serve_journal.specs.Lines.{lines_of}
use Rattle.serve_journal.specs.Reading.{is_entry}
use Rattle.serve_journal.proofs.reading.are_entries.Given as goal

abbrev pub invariant-loop-line : goal.invariant-loop-line
invariant-loop-line l = list_all is_entry (lines_of l.lines) ≡ list_all is_entry (lines_of l.rest)

abbrev pub decreases-loop-line : goal.decreases-loop-line
decreases-loop-line l = length l.rest
