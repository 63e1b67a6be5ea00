use Rattle.std.proofs.Common.{◌≡◌, ◌+◌, ◌-◌, ◌*◌, ◌≤◌, length}
use Rattle.gateway_book.specs.Answer.{most_cap}
use Rattle.gateway_book.specs.Loading.{loaded}
use Rattle.gateway_book.specs.Saved.{saved_of, opened_again}
use Rattle.gateway_book.specs.SavedLines.{Leads, members_from}
use Rattle.gateway_book.proofs.book.GatewayBook.load_counted.Given as goal

abbrev pub invariant-loop-entry : goal.invariant-loop-entry
invariant-loop-entry g l = record {
  again : l.book ≡ opened_again (saved_of l.book);
  leads : Leads (g.I.ByteIn.left l.fn.reader) (g.I.ByteIn.left l.reader) l.taken loaded
      (members_from (length l.book.list + 3) (saved_of l.book));
  few : l.taken ≤ 81 * (length l.book.list + 2);
  quiet : g.I.ByteIn.failed_calls l.reader ≡ g.I.ByteIn.failed_calls l.fn.reader;
}

abbrev pub decreases-loop-entry : goal.decreases-loop-entry
decreases-loop-entry g l = most_cap - length l.book.list
