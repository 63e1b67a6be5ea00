use Rattle.std.specs.Bool.{OnTrue}
use Rattle.book_audit.proofs.MarkLemmas.{IsMarkedOrPast}
use Rattle.book_audit.proofs.marks.fn.are_past.all.Given as goal

abbrev pub ensures : goal.ensures
ensures g l r = OnTrue r (IsMarkedOrPast l.shelf.entry.now (l.receipt.entry.now, l.marked.entry.now))
