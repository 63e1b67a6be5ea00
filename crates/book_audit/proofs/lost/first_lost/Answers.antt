use Rattle.std.proofs.Common.{◌<◌, length, arith, rules}
use Rattle.std.proofs.lemmas.List.Elements.{AllWithin-more, at_read}
use Rattle.book_audit.specs.Audit.{IsAccountedFor}
use Rattle.book_audit.proofs.LostLemmas.{first_lost_is}
use Rattle.book_audit.proofs.lost.first_lost.Goals as goal

pub returns-then-not-is_accounted_for : goal.returns-then-not-is_accounted_for
returns-then-not-is_accounted_for g c =
    let within : c.loop-receipt.receipt-index < length c.args.receipts.now = omega arith in
    first_lost_is _ _ _ c.receipt-item.result within c.receipt-item.is c.loop-receipt.invariant
    (λ a. let yes = c.is_accounted_for.ensures.1 a in let no = c.if-not-is_accounted_for.true in cc)

pub loop-receipt-preserved : goal.loop-receipt-preserved
loop-receipt-preserved g c =
    let within : c.loop-receipt.receipt-index < length c.args.receipts.now = omega arith in
    AllWithin-more (IsAccountedFor c.args.shelf.now) c.args.receipts.now 0 c.loop-receipt.receipt-index c.loop-receipt.invariant
    (at_read c.args.receipts.now (IsAccountedFor c.args.shelf.now) c.loop-receipt.receipt-index c.receipt-item.result within
    c.receipt-item.is (c.is_accounted_for.ensures.0 (search rules)))

pub returns : goal.returns
returns g c k d l = c.loop-receipt.invariant k d (omega arith) (omega arith)
