use Rattle.std.proofs.Common.{take}
use Rattle.book_audit.specs.Audit.{held_by}
use Rattle.book_audit.specs.Marks.{AreMarked}
use Rattle.book_audit.proofs.marks.marks_of.Given as goal

abbrev pub invariant-loop-gateway : goal.invariant-loop-gateway
invariant-loop-gateway g l = AreMarked l.receipts (held_by (take l.gateway-index l.shelf)) l.marks.items
