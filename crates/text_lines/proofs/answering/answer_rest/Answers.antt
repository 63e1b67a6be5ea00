use Rattle.text_lines.proofs.Endings.{AnswersFront-part, AnswersRead-part, AnswersFront-ended, AnswersRead-ended}
use Rattle.text_lines.proofs.Endings.{AnswersAll-ended}
use Rattle.text_lines.proofs.answering.answer_rest.Goals as goal

pub returns-in-Err-clause-front : goal.returns-in-Err-clause-front
returns-in-Err-clause-front g c s stood = AnswersFront-part g.T.LineAnswerer.turns s _ stood _ _ _ _ c.in-Err.ensures.part

pub returns-in-Err-clause-read_front : goal.returns-in-Err-clause-read_front
returns-in-Err-clause-read_front g c s stood = AnswersRead-part g.T.LineAnswerer.turns s _ stood _ _ _ _ c.in-Err.ensures.part

pub returns-in-Err-end_text-clause-front : goal.returns-in-Err-end_text-clause-front
returns-in-Err-end_text-clause-front g c s stood =
    AnswersFront-ended g.T.LineAnswerer.turns s _ stood _ _ _ _ _ _ _ _ _ c.in-Ok.ensures.ok c.in-Err-end_text.ensures.err

pub returns-in-Err-end_text-clause-read_front : goal.returns-in-Err-end_text-clause-read_front
returns-in-Err-end_text-clause-read_front g c s stood =
    AnswersRead-ended g.T.LineAnswerer.turns s _ stood _ _ _ _ _ _ _ _ _ c.in-Ok.ensures.ok
    (returns-in-Err-end_text-clause-front g c s stood)

pub returns-in-Ok-end_text-clause-ok : goal.returns-in-Ok-end_text-clause-ok
returns-in-Ok-end_text-clause-ok g c s stood =
    AnswersAll-ended g.T.LineAnswerer.turns s _ stood _ _ _ _ _ _ _ _ _
    g.met.T.LineAnswerer.no_refusal_at_the_end c.in-Ok.ensures.ok c.in-Ok-end_text.ensures.ok
