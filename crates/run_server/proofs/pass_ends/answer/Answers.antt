use Rattle.std.proofs.Common.{List, subst}
use Rattle.std.specs.Global.{Global}
use Rattle.answer_ticket.specs.declared.tried.Receipt.{Receipt}
use Rattle.run_server.specs.PassAnswers.{AreTold}
use Rattle.run_server.proofs.FrameLemmas.{ends_told}
use Rattle.run_server.proofs.pass_ends.answer.Goals as goal

pub returns-clause-told : goal.returns-clause-told
returns-clause-told c =
    ends_told c.args.is_moved c.args.number c.args.filed.now c.answer_to.new.receipts c.requires
    (subst (λ (l : List (Receipt Global)). AreTold c.args.is_moved c.args.number l c.answer_to.new.receipts)
    c.as_mut_slice-receipts.ensures.value c.answer_to.ensures.told)
