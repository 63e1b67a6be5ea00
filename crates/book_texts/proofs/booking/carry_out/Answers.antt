use Rattle.book_texts.proofs.AnsweringLemmas.{carried_out-sought}
use Rattle.book_texts.proofs.booking.carry_out.Goals as goal

pub returns-in-Earliest : goal.returns-in-Earliest
returns-in-Earliest g c =
    rw c.in-Earliest.is (carried_out-sought c.args.book.now c.in-Earliest.ask c.in-Earliest.last c.earliest_start.result
    c.earliest_start.ensures)
