use Rattle.std.proofs.Common.{ap, rules}
use Rattle.std.specs.Bool.{⊤}
use Rattle.std.proofs.lemmas.Iterator.{cases_from_all, YieldsList-from_slice, YieldsList-from_zip}
use Rattle.book_audit.proofs.MarkLemmas.{IsMarkedOrPast, all_accounted}
use Rattle.book_audit.proofs.marks.are_past.Goals as goal

pub returns : goal.returns
returns g c =
    all_accounted c.args.shelf.now c.args.receipts.now c.args.marks.now c.all.result _ c.requires
    (cases_from_all c.all.new.self _ _ (IsMarkedOrPast c.args.shelf.now) (λ p. ⊤) c.all.ensures.ran
    (YieldsList-from_zip (YieldsList-from_slice c.args.receipts.now (cc)) (YieldsList-from_slice c.args.marks.now (cc)))
    (λ x q k. (ap (λ s. record { 0 = s }) k.met.1, search rules)) (λ x q k. tt))
