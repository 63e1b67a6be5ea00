use Rattle.book_texts.proofs.LawLemmas.{plan_tells_answers, plan_tells_bookings}
use Rattle.book_texts.proofs.laws.law_plan_tells_answers.Goals as goal

pub returns-clause-all : goal.returns-clause-all
returns-clause-all c = plan_tells_answers

pub returns-clause-each : goal.returns-clause-each
returns-clause-each c = plan_tells_bookings
