use Rattle.book_texts.proofs.AnsweringLemmas.{carried_out-cancelled, carried_out-not_cancelled}
use Rattle.book_texts.proofs.booking.take_out.Goals as goal

pub returns-in-Ok : goal.returns-in-Ok
returns-in-Ok g c =
    carried_out-cancelled c.args.book.now c.cancel.new.self c.args.number c.args.start c.in-Ok.airtime
    c.in-Ok.ensures.answer c.in-Ok.ensures.cancelled c.in-Ok.ensures.step

pub returns-in-Err : goal.returns-in-Err
returns-in-Err g c =
    carried_out-not_cancelled c.args.book.now c.cancel.new.self c.args.number c.args.start c.in-Err.fault
    c.in-Err.ensures.answer c.in-Err.ensures.refused c.in-Err.ensures.step
