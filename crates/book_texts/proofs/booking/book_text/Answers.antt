use Rattle.std.proofs.Common.{Bool, OnErr, sym, subst}
use Rattle.book_texts.specs.Promise.{AnswersRead}
use Rattle.book_texts.proofs.booking.book_text.Goals as goal

pub returns-then-resume-clause-read_front : goal.returns-then-resume-clause-read_front
returns-then-resume-clause-read_front g c =
    let P : Bool → Type 0 = λ resume. OnErr c.resumed_text.result (AnswersRead resume c.args.save
    (record { cap = c.args.cap; gap = c.args.gap }) (g.R.ByteIn.left c.args.reader.now)
    (g.R.ByteIn.left c.resumed_text.new.reader) (g.W.ByteOut.taken c.args.writer.now)
    (g.W.ByteOut.taken c.resumed_text.new.writer)) in
    subst P (sym c.if-resume.true) c.resumed_text.ensures.read_front
