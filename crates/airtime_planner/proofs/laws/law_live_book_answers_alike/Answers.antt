use Rattle.airtime_planner.proofs.LiveLaws.{alike}
use Rattle.airtime_planner.proofs.laws.law_live_book_answers_alike.Goals as goal

pub returns : goal.returns
returns c = λ b asks answers right. alike b.rules b.floor 0 b.cancelled b.booked b.list asks answers right
