use Rattle.std.proofs.Common.{ap, ◌∙◌}
use Rattle.server_workers.specs.Filing.{put_behind, filing}
use Rattle.server_workers.specs.Lists.{lists_of}
use Rattle.server_workers.specs.Working.{of_turn}
use Rattle.server_workers.proofs.FilingLemmas.{filing_is}
use Rattle.server_workers.proofs.worked.Worked.answer.Goals as goal

pub returns-clause-filed : goal.returns-clause-filed
returns-clause-filed g c =
    let turn = c.answered-turn.ensures in
    let filed = c.file.ensures in
    let handled = c.answered-turn.result.handled in
    let kept = filing (lists_of c.args.self.now) in (
      handled,
      record {
        told = turn.turn;
        idle = turn.idle;
        filed =
            filing_is _ (put_behind kept (of_turn c.answered-turn.result.number handled)) filed.receipts.items
            filed.outcomes.items filed.skipped.items filed.refused.items filed.strays.items
            ∙ ap (λ n. put_behind kept (of_turn n handled)) turn.number;
      },
    )
