use Rattle.std.proofs.Common.{rules}
use Rattle.text_lines.specs.Promise.{AnswersFront, AnswersRead}
use Rattle.book_texts.specs.Planning.{plan_output}
use Rattle.book_texts.proofs.OpeningLemmas.{on_err_anyway}
use Rattle.book_texts.proofs.planning.plan_text.Goals as goal

pub returns-in_err-answer_text-clause-front : goal.returns-in_err-answer_text-clause-front
returns-in_err-answer_text-clause-front g c =
    let front : AnswersFront (plan_output (record { cap = c.args.cap; gap = c.args.gap })) (g.R.ByteIn.left c.args.reader.now)
    (g.W.ByteOut.taken c.args.writer.now) (g.W.ByteOut.taken c.answer_text.new.writer) = search rules in
    on_err_anyway _ front

pub returns-in_err-answer_text-clause-read_front : goal.returns-in_err-answer_text-clause-read_front
returns-in_err-answer_text-clause-read_front g c =
    let front : AnswersRead (plan_output (record { cap = c.args.cap; gap = c.args.gap })) (g.R.ByteIn.left c.args.reader.now)
    (g.R.ByteIn.left c.answer_text.new.reader) (g.W.ByteOut.taken c.args.writer.now)
    (g.W.ByteOut.taken c.answer_text.new.writer) = search rules in
    on_err_anyway _ front
