use Rattle.gateway_clock.proofs.Sessions.{same_differences, told_back}
use Rattle.gateway_clock.proofs.laws.law_sessions_keep_differences.Goals as goal

pub returns : goal.returns
returns c = record { differ = same_differences; told = told_back }
