use Rattle.std.proofs.Common.{◌≡◌, ◌++◌, length}
use Rattle.resv_list.specs.Sorted.{rest_from}
use Rattle.resv_list.specs.Reservations.{start_of}
use Rattle.text_lines.specs.Writing.{WritesAllBut}
use Rattle.gateway_book.specs.Saved.{members_text}
use Rattle.gateway_book.proofs.saving.put_members.Given as goal

abbrev pub invariant-loop-member : goal.invariant-loop-member
invariant-loop-member g l = record {
  written : WritesAllBut (g.W.ByteOut.taken l.fn.writer) (g.W.ByteOut.taken l.writer)
      (l.fn.output ++ members_text (g.R.Roster.list l.roster))
      (l.output ++ members_text (rest_from start_of l.from (g.R.Roster.list l.roster)));
  quiet : g.W.ByteOut.failed_calls l.writer ≡ g.W.ByteOut.failed_calls l.fn.writer;
}

abbrev pub decreases-loop-member : goal.decreases-loop-member
decreases-loop-member g l = length (rest_from start_of l.from (g.R.Roster.list l.roster))
