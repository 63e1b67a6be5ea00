use Rattle.event_lines.proofs.ReadBack.{read_back}
use Rattle.event_lines.proofs.laws.law_events_read_back.Goals as goal

pub returns : goal.returns
returns g c = read_back
