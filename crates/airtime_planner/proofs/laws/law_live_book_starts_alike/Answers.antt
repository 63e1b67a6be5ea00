use Rattle.airtime_planner.proofs.LiveLaws.{starts_alike}
use Rattle.airtime_planner.proofs.laws.law_live_book_starts_alike.Goals as goal

pub returns : goal.returns
returns c = λ b asks ask a z. starts_alike b.rules b.floor 0 b.cancelled ask a z b.booked b.list asks
