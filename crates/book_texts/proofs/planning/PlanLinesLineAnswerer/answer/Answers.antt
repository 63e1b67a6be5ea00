use Rattle.std.proofs.Common.{sym, ◌∙◌}
use Rattle.book_texts.proofs.TryingLemmas.{turn_before}
use Rattle.book_texts.proofs.planning.PlanLinesLineAnswerer.answer.Goals as goal

pub returns : goal.returns
returns g c =
    turn_before c.args.self.now.book c.answer_line.new.book c.args.self.now.is_planned c.args.self.now.copy c.args.number
    c.args.line.now c.answer_line.new.text c.answer_line.result c.if-self.false (sym c.opens_plan.ensures ∙ c.if-opens_plan.false)
    c.answer_line.ensures
