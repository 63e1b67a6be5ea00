use Rattle.server_core.proofs.DeskSteps.{desk_calls_are_steps}
use Rattle.server_core.proofs.laws.law_desk_calls_are_steps.Goals as goal

pub returns : goal.returns
returns c = desk_calls_are_steps
