use Rattle.std.proofs.Common.{◌≡◌, ◌++◌, length, map}
use Rattle.resv_list.specs.Sorted.{rest_from}
use Rattle.resv_list.specs.Reservations.{start_of}
use Rattle.text_lines.specs.Line.{text_of}
use Rattle.text_lines.specs.Writing.{WritesAllBut}
use Rattle.book_picture.specs.Hour.{members_of_hour}
use Rattle.book_picture.specs.Lines.{mark_line, mark_lines}
use Rattle.book_picture.proofs.marks.put_marks.Given as goal

abbrev pub invariant-loop-member : goal.invariant-loop-member
invariant-loop-member g l = record {
  written : WritesAllBut (g.W.ByteOut.taken l.fn.writer) (g.W.ByteOut.taken l.writer)
      (l.fn.output ++ text_of (mark_lines (g.R.Roster.list l.roster) l.from))
      (l.output ++ text_of (map (mark_line l.from)
      (rest_from start_of l.at (members_of_hour (g.R.Roster.list l.roster) l.from))));
  quiet : g.W.ByteOut.failed_calls l.writer ≡ g.W.ByteOut.failed_calls l.fn.writer;
}

abbrev pub decreases-loop-member : goal.decreases-loop-member
decreases-loop-member g l = length (rest_from start_of l.at (members_of_hour (g.R.Roster.list l.roster) l.from))
