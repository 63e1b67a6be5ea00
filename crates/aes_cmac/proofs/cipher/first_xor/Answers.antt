use Rattle.aes_cmac.proofs.RoundFacts.{first_xor-columns}
use Rattle.aes_cmac.proofs.cipher.first_xor.Goals as goal

pub returns : goal.returns
returns c = first_xor-columns _ _ _ _ _ _ _ _
