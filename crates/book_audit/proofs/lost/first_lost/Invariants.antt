use Rattle.std.specs.List.{AllWithin}
use Rattle.book_audit.specs.Audit.{IsAccountedFor}
use Rattle.book_audit.proofs.lost.first_lost.Given as goal

abbrev pub invariant-loop-receipt : goal.invariant-loop-receipt
invariant-loop-receipt g l = AllWithin (IsAccountedFor l.shelf) l.receipts 0 l.receipt-index
