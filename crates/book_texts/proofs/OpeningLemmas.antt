-- Lemmas on a text that ended before its output was whole.
use Rattle.std.proofs.Common.{Result, Ok, Err, OnErr}
use Rattle.text_lines.specs.Promise.{AnswersInPart-nothing, AnswersSoFar-nothing}

-- what holds anyway holds where there is an error
pub on_err_anyway : {T E P : Type 0} (r : Result T E) → P → OnErr r P
on_err_anyway (Ok done) p = tt
on_err_anyway (Err fault) p = p

pub ruleset ended_early = (on_err_anyway, AnswersInPart-nothing, AnswersSoFar-nothing)
