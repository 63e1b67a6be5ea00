use Rattle.server_core.proofs.ResumedRuns.{every_resumed_run_keeps_headline}
use Rattle.server_core.proofs.laws.law_every_resumed_run_keeps_headline.Goals as goal

pub returns : goal.returns
returns c = every_resumed_run_keeps_headline
