use Rattle.std.proofs.Common.{ap, sym, ◌∙◌, arith, List, ℕ, length}
use Rattle.aes_cmac.specs.Aes.{xor_bytes}
use Rattle.aes_cmac.specs.Mac.{carry_block}
use Rattle.aes_cmac.proofs.MacFacts.{carried, doubled_block-carry, length-shifted_left}
use Rattle.aes_cmac.proofs.subkeys.subkey_after.Goals as goal

pub returns-then-block-ge128 : goal.returns-then-block-ge128
returns-then-block-ge128 c =
    carried c.shifted-out.result (omega (
      arith,
      ap (λ (l : List ℕ). length l) c.shifted-out.ensures,
      length-shifted_left c.args.block.now,
    ))
    ∙ ap (λ (l : List ℕ). xor_bytes carry_block l) c.shifted-out.ensures
    ∙ sym (doubled_block-carry c.args.block.now c.if-block-ge128.true)
