use Rattle.std.proofs.Common.{refl, arith, rules}
use Rattle.aes_cmac.proofs.MacFacts.{same_more, shifted_byte, shifted_all}
use Rattle.aes_cmac.proofs.subkeys.shifted.Goals as goal

pub bytes-preserved : goal.bytes-preserved
bytes-preserved c = (
  search rules,
  same_more _ _ _ _ (omega (arith, c.bytes.invariant.0)) (shifted_byte c.args.block.now c.bytes.i _ (omega arith) refl)
      c.bytes.invariant.1,
)

pub returns : goal.returns
returns c =
    shifted_all c.bytes.out c.args.block.now _ c.bytes.invariant.0 (omega arith) refl
    (λ k low. c.bytes.invariant.1 k (omega arith))
