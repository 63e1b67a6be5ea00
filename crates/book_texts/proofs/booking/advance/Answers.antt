use Rattle.std.proofs.Common.{ap}
use Rattle.gateway_book.specs.declared.totals.Totals.{Totals}
use Rattle.book_texts.proofs.AnsweringLemmas.{carried_out-ticked}
use Rattle.book_texts.proofs.booking.advance.Goals as goal

pub returns : goal.returns
returns g c =
    carried_out-ticked c.args.book.now c.tick.new.self c.args.now c.totals.result.floor c.tick.ensures.ticked
    (ap (λ (t : Totals). t.floor) c.totals.ensures.totals)
