use Rattle.serve_turns.proofs.CounterLives.{every_served_life_raises_counters}
use Rattle.serve_turns.proofs.life_law.law_every_served_life_raises_counters.Goals as goal

pub returns : goal.returns
returns g c = every_served_life_raises_counters g.row.A.Denot
