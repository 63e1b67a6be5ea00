use Rattle.std.proofs.Common.{◌≡◌, ◌++◌, length}
use Rattle.resv_list.specs.Reservations.{start_of}
use Rattle.resv_list.specs.Sorted.{rest_from}
use Rattle.text_lines.specs.Line.{text_of}
use Rattle.text_lines.specs.Writing.{WritesAllBut}
use Rattle.journal_sql.specs.Rows.{sent_row}
use Rattle.journal_sql.specs.Sql.{numbered, number_behind}
use Rattle.journal_sql.proofs.writing.put_book.Given as goal

abbrev pub invariant-loop-member : goal.invariant-loop-member
invariant-loop-member g l = record {
  written : WritesAllBut (g.W.ByteOut.taken l.fn.writer) (g.W.ByteOut.taken l.writer)
      (l.fn.output ++ text_of (numbered (sent_row l.id) l.number (g.R.Roster.list l.roster)))
      (l.output ++ text_of (numbered (sent_row l.id) l.next (rest_from start_of l.from (g.R.Roster.list l.roster))));
  quiet : g.W.ByteOut.failed_calls l.writer ≡ g.W.ByteOut.failed_calls l.fn.writer;
  counted : number_behind l.next (rest_from start_of l.from (g.R.Roster.list l.roster))
      ≡ number_behind l.number (g.R.Roster.list l.roster);
}

abbrev pub decreases-loop-member : goal.decreases-loop-member
decreases-loop-member g l = length (rest_from start_of l.from (g.R.Roster.list l.roster))
