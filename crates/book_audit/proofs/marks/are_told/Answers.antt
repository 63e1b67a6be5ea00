use Rattle.std.proofs.Common.{subst}
use Rattle.std.specs.Prelude.{IfSome}
use Rattle.book_audit.specs.Audit.{held_by, EachStandsOnce}
use Rattle.book_audit.specs.Marks.{AreMarked}
use Rattle.book_audit.proofs.HeldLemmas.{numbers_held}
use Rattle.book_audit.proofs.marks.are_told.Goals as goal

pub returns-in-Some-clause-once : goal.returns-in-Some-clause-once
returns-in-Some-clause-once g c _ =
    let marked = subst (λ made. IfSome made (λ marks. AreMarked c.args.receipts.now (held_by c.args.shelf.now) marks.items))
    c.in-Some.is c.in_ok-marks.ensures in
    subst EachStandsOnce (numbers_held c.args.shelf.now) marked.once
