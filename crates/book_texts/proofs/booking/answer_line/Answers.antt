use Rattle.std.proofs.Common.{Option, subst}
use Rattle.book_texts.specs.declared.reply.Reply.{Reply}
use Rattle.book_texts.specs.Progress.{IsReplied}
use Rattle.book_texts.proofs.TurnLemmas.{turn_unanswered, turn_answered}
use Rattle.book_texts.proofs.booking.answer_line.Goals as goal

pub returns-in_default : goal.returns-in_default
returns-in_default g c = λ at stood.
    let P : Option Reply → Type 0 =
    λ o. IsReplied c.args.book.now c.reply_to_line.new.book c.args.number c.args.line.now o in
    turn_unanswered c.args.book.now c.reply_to_line.new.book c.args.number c.args.line.now at stood c.args.text.now
    (subst P c.in_default.is c.reply_to_line.ensures) c.requires

pub returns : goal.returns
returns g c = λ at stood.
    let P : Option Reply → Type 0 =
    λ o. IsReplied c.args.book.now c.reply_to_line.new.book c.args.number c.args.line.now o in
    turn_answered c.args.book.now c.reply_to_line.new.book c.args.number c.args.line.now at stood c.write.new.text
    c.is_refusal.result c.in-Some.reply (subst P c.in-Some.is c.reply_to_line.ensures) c.write.ensures c.is_refusal.ensures
