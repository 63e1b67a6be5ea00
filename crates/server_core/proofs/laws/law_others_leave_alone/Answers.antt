use Rattle.server_core.proofs.StaySteps.{others_leave_alone}
use Rattle.server_core.proofs.laws.law_others_leave_alone.Goals as goal

pub returns : goal.returns
returns c = others_leave_alone
