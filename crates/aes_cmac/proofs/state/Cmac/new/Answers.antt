use Rattle.std.proofs.Common.{refl}
use Rattle.aes_cmac.specs.Mac.{chain_after}
use Rattle.aes_cmac.proofs.state.Cmac.new.Goals as goal

pub returns : goal.returns
unfolding chain_after
returns c = record { same_key = refl; chain_is = refl; tail_is = refl }
