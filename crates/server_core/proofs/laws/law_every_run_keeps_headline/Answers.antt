use Rattle.server_core.proofs.Headlines.{every_run_keeps_headline}
use Rattle.server_core.proofs.laws.law_every_run_keeps_headline.Goals as goal

pub returns : goal.returns
returns c = every_run_keeps_headline
