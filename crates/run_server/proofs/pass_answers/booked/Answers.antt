use Rattle.std.proofs.Common.{◌∙◌, sym, ap}
use Rattle.run_server.specs.PassAnswers.{told_receipt}
use Rattle.run_server.proofs.FrameLemmas.{one_told}
use Rattle.run_server.proofs.pass_answers.booked.Goals as goal

pub returns-clause-told : goal.returns-clause-told
returns-clause-told c =
    let there = c.index-receipts-at.is in
    one_told c.args.is_moved c.args.number c.args.receipts.now c.in-Some.at c.index-receipts-at.result c.sent.new.receipt
    c.in-Some.ensures.within there c.in-Some.ensures.found
    (c.sent.ensures.told ∙ ap (told_receipt c.args.is_moved) (sym there))
