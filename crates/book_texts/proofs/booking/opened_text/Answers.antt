use Rattle.gateway_book.specs.Answer.{Rules}
use Rattle.book_texts.specs.Opening.{empty_standing}
use Rattle.book_texts.proofs.OpeningLemmas.{on_err_anyway}
use Rattle.book_texts.proofs.ReportLemmas.{stands_opened}
use Rattle.book_texts.proofs.booking.opened_text.Goals as goal

pub returns-in_err-answer_text-clause-front : goal.returns-in_err-answer_text-clause-front
returns-in_err-answer_text-clause-front g c =
    let rules : Rules = record { cap = c.args.cap; gap = c.args.gap } in
    on_err_anyway _ (c.in_err-answer_text.ensures.front (empty_standing c.args.save rules)
    (rw c.in_ok-book.ensures.empty (stands_opened rules c.args.save c.in_ok-book.ensures.opened.2)))

pub returns-in_err-answer_text-clause-read_front : goal.returns-in_err-answer_text-clause-read_front
returns-in_err-answer_text-clause-read_front g c =
    let rules : Rules = record { cap = c.args.cap; gap = c.args.gap } in
    on_err_anyway _ (c.in_err-answer_text.ensures.read_front (empty_standing c.args.save rules)
    (rw c.in_ok-book.ensures.empty (stands_opened rules c.args.save c.in_ok-book.ensures.opened.2)))

pub returns-clause-ok : goal.returns-clause-ok
returns-clause-ok g c =
    let rules : Rules = record { cap = c.args.cap; gap = c.args.gap } in
    c.in_ok-answer_text.ensures.ok (empty_standing c.args.save rules)
    (rw c.in_ok-book.ensures.empty (stands_opened rules c.args.save c.in_ok-book.ensures.opened.2))
