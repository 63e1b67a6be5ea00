use Rattle.serve_turns.proofs.CounterTurns.{each_downlink_is_counted}
use Rattle.serve_turns.proofs.life_law.law_each_downlink_is_counted.Goals as goal

pub returns : goal.returns
returns g c = each_downlink_is_counted g.row.A.Denot
