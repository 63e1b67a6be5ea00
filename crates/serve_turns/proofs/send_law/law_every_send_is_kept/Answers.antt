use Rattle.serve_turns.proofs.SendLaws.{every_send_is_kept}
use Rattle.serve_turns.proofs.send_law.law_every_send_is_kept.Goals as goal

pub returns : goal.returns
returns g c = every_send_is_kept g.row.A.Denot
