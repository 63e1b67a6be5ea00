use Rattle.std.proofs.Common.{◌≡◌, ◌++◌, length, map}
use Rattle.resv_list.specs.Sorted.{rest_from}
use Rattle.resv_list.specs.Reservations.{start_of}
use Rattle.text_lines.specs.Writing.{WritesAllBut}
use Rattle.serve_journal.specs.Renewal.{entries_text, sent_entry}
use Rattle.serve_journal.proofs.renewal.put_book.Given as goal

abbrev pub invariant-loop-member : goal.invariant-loop-member
invariant-loop-member g l = record {
  written : WritesAllBut (g.W.ByteOut.taken l.fn.writer) (g.W.ByteOut.taken l.writer)
      (l.fn.output ++ entries_text (map (sent_entry l.id) (g.R.Roster.list l.roster)))
      (l.output ++ entries_text (map (sent_entry l.id) (rest_from start_of l.from (g.R.Roster.list l.roster))));
  quiet : g.W.ByteOut.failed_calls l.writer ≡ g.W.ByteOut.failed_calls l.fn.writer;
}

abbrev pub decreases-loop-member : goal.decreases-loop-member
decreases-loop-member g l = length (rest_from start_of l.from (g.R.Roster.list l.roster))
