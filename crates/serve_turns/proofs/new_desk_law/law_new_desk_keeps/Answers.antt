use Rattle.serve_turns.proofs.NewDeskLaws.{new_desk_keeps}
use Rattle.serve_turns.proofs.new_desk_law.law_new_desk_keeps.Goals as goal

pub returns : goal.returns
returns g c = new_desk_keeps g.row.A.Denot
