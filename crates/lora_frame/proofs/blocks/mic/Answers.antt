use Rattle.std.proofs.Common.{List, ℕ, take, ◌++◌, ap, ◌∙◌, arith}
use Rattle.aes_cmac.specs.Mac.{cmac}
use Rattle.lora_frame.specs.Blocks.{mic_of}
use Rattle.lora_frame.proofs.Lists.{take-four}
use Rattle.lora_frame.proofs.blocks.mic.Goals as goal

pub returns : goal.returns
unfolding mic_of
returns c =
    let a = c.args in
    let b = c.block_of.ensures in
    let taken = c.finish-code.ensures _ _ (c.update-2.ensures _ _ (c.update.ensures _ _ c.new-state.ensures)) in
    take-four _ (omega arith) ∙ ap (take 4) taken ∙ ap (λ (x : List ℕ). take 4 (cmac a.key.now (x ++ a.message.now))) b
