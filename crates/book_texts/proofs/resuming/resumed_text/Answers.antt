use Rattle.text_lines.specs.Promise.{AnswersInPart-nothing}
use Rattle.book_texts.specs.Opening.{resumed_output}
use Rattle.book_texts.proofs.OpeningLemmas.{on_err_anyway}
use Rattle.book_texts.proofs.ResumeLemmas.{Answers-resumed, Front-resumed, Read-resumed, Read-unopened}
use Rattle.book_texts.proofs.resuming.resumed_text.Goals as goal

pub returns-in-Err-clause-front : goal.returns-in-Err-clause-front
returns-in-Err-clause-front g c = AnswersInPart-nothing (resumed_output c.args.save) _ _

pub returns-in-Err-clause-read_front : goal.returns-in-Err-clause-read_front
returns-in-Err-clause-read_front g c =
    Read-unopened (resumed_output c.args.save) _ _ _ c.load_ahead-loaded.result.1 c.load_ahead-loaded.ensures.rest

pub returns-in_err-answer_rest-clause-front : goal.returns-in_err-answer_rest-clause-front
returns-in_err-answer_rest-clause-front g c =
    on_err_anyway _ (Front-resumed c.args.save c.in-Ok.book (rw c.in-Ok.is at c.load_ahead-loaded.ensures.opened) _ _ _ _
    (rw c.in-Ok.is at c.load_ahead-loaded.ensures.loads) c.in_err-answer_rest.ensures.front)

pub returns-in_err-answer_rest-clause-read_front : goal.returns-in_err-answer_rest-clause-read_front
returns-in_err-answer_rest-clause-read_front g c =
    on_err_anyway _ (Read-resumed c.args.save c.in-Ok.book (rw c.in-Ok.is at c.load_ahead-loaded.ensures.opened) _ _ _ _ _
    (rw c.in-Ok.is at c.load_ahead-loaded.ensures.loads) c.in_err-answer_rest.ensures.read_front)

pub returns-clause-ok : goal.returns-clause-ok
returns-clause-ok g c =
    Answers-resumed c.args.save c.in-Ok.book (rw c.in-Ok.is at c.load_ahead-loaded.ensures.opened) _ _ _ _ _ _
    (rw c.in-Ok.is at c.load_ahead-loaded.ensures.loads) c.in_ok-answer_rest.ensures.ok
