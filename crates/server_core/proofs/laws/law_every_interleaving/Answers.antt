use Rattle.server_core.proofs.Runs.{every_interleaving_is_safe}
use Rattle.server_core.proofs.laws.law_every_interleaving.Goals as goal

pub returns : goal.returns
returns c = every_interleaving_is_safe
