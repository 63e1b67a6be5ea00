use Rattle.std.proofs.Common.{◌<◌, length, sym, ap, ◌∙◌, arith}
use Rattle.std.proofs.lemmas.List.{get_or_default}
use Rattle.book_audit.specs.Held.{Kept}
use Rattle.book_audit.proofs.LostLemmas.{pair_is}
use Rattle.book_audit.proofs.MarkLemmas.{one_more}
use Rattle.book_audit.proofs.marks.mark.Goals as goal

pub returns-clause-marked : goal.returns-clause-marked
returns-clause-marked g c _ held marked =
    let receipts = c.args.receipts.now in
    let own : Kept = (c.args.gateway, c.args.member.now) in
    let within : c.args.at < length receipts = omega arith in
    one_more receipts held c.args.marks.now c.args.at own c.requires.rising within c.if-marks-at.false
    (λ d.
    let here = get_or_default receipts c.args.at d c.index-receipts-at.result within ∙ sym c.index-receipts-at.is in
    pair_is _ c.args.gateway c.args.member.now (ap (λ r. r.gateway) here ∙ c.if-receipt-gateway.false)
    (ap (λ r. r.reservation) here ∙ c.is_same.ensures.0 c.if-not-is_same.false)) marked
