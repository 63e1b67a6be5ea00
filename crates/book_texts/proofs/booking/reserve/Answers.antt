use Rattle.book_texts.proofs.AnsweringLemmas.{carried_out-booking}
use Rattle.book_texts.proofs.booking.reserve.Goals as goal

pub returns : goal.returns
returns g c =
    rw c.told.ensures (carried_out-booking c.args.book.now c.book.new.self c.args.ask c.book.result c.book.ensures.answer
    c.book.ensures.asked c.book.ensures.booked c.book.ensures.refused)
