use Rattle.std.proofs.Common.{List, ℕ, ap, ◌∙◌}
use Rattle.aes_cmac.specs.Aes.{ciphertext}
use Rattle.aes_cmac.specs.Progress.{Progress}
use Rattle.aes_cmac.proofs.Pieces.{cmac-last}
use Rattle.aes_cmac.proofs.state.Cmac.finish.Goals as goal

pub returns : goal.returns
returns c = λ key m held.
    c.encrypt.ensures ∙ ap (λ (b : List ℕ). ciphertext c.self.inside.key.now b) c.xor_of.ensures
    ∙ cmac-last c.args.self key m c.last_block.result c.self.inside.key.now c.self.inside.chain held
    (ap (λ (s : Progress). s.key) c.self.view_is)
    (ap (λ (s : Progress). s.chain) c.self.view_is) c.last_block.ensures.whole c.last_block.ensures.filled
