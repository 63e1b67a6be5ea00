use Rattle.serve_turns.proofs.SendOnce.{each_is_sent_once}
use Rattle.serve_turns.proofs.send_law.law_each_downlink_is_sent_once.Goals as goal

pub returns : goal.returns
returns g c = each_is_sent_once g.row.A.Denot
