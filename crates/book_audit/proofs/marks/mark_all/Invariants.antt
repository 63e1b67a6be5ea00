use Rattle.std.proofs.Common.{◌≡◌, ◌++◌, List, length, map, take}
use Rattle.book_audit.specs.Held.{Kept}
use Rattle.book_audit.specs.Marks.{AreMarked}
use Rattle.book_audit.proofs.marks.mark_all.Given as goal

abbrev pub invariant-loop-member : goal.invariant-loop-member
invariant-loop-member g l =
    (length l.marks ≡ length l.receipts)
    × ((held : List Kept) → AreMarked l.receipts held l.fn.marks
    → AreMarked l.receipts (held ++ map (λ r. (l.gateway, r)) (take l.member-index l.members)) l.marks)
