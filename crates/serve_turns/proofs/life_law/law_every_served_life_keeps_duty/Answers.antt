use Rattle.serve_turns.proofs.LifeLaws.{every_served_life_keeps_duty}
use Rattle.serve_turns.proofs.life_law.law_every_served_life_keeps_duty.Goals as goal

pub returns : goal.returns
returns g c = every_served_life_keeps_duty g.row.A.Denot
