use Rattle.serve_turns.proofs.CounterTurns.{devices_go_on}
use Rattle.serve_turns.proofs.life_law.law_devices_go_on.Goals as goal

pub returns : goal.returns
returns g c = devices_go_on g.row.A.Denot
