use Rattle.std.proofs.Common.{sym, ap, ◌∙◌}
use Rattle.gateway_book.specs.Answer.{refusal_of}
use Rattle.gateway_book.specs.Book.{state_of, terms_of}
use Rattle.gateway_book.proofs.AdmittedLaws.{not_refused}
use Rattle.gateway_book.proofs.AnswerLaws.{book_step-accepted}
use Rattle.gateway_book.proofs.book.GatewayBook.book.Goals as goal

pub returns-in-Ok-clause-asked : goal.returns-in-Ok-clause-asked
returns-in-Ok-clause-asked g c = (not_refused _ _ c.args.ask c.in_ok-reservation.ensures.answer).1

pub returns-in-Ok-clause-step : goal.returns-in-Ok-clause-step
returns-in-Ok-clause-step g c =
    let now = c.args.self.now in
    let r = c.in_ok-reservation.reservation in
    let told = not_refused (refusal_of (terms_of now) now.list c.args.ask) r c.args.ask c.in_ok-reservation.ensures.answer in
    ap state_of c.in-Ok.ensures.added ∙ sym (book_step-accepted now.rules (state_of now) c.args.ask r told.0 told.1)
