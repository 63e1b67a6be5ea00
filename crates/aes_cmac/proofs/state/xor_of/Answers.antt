use Rattle.std.proofs.Common.{sym, ◌∙◌, arith, rules}
use Rattle.aes_cmac.proofs.Lengths.{length-xor_bytes}
use Rattle.aes_cmac.proofs.MacFacts.{same_more, same_all, get_or-xor_bytes}
use Rattle.aes_cmac.proofs.state.xor_of.Goals as goal

pub bytes-preserved : goal.bytes-preserved
bytes-preserved c = (
  search rules,
  same_more _ _ _ _ (omega (arith, c.bytes.invariant.0)) (sym
      (get_or-xor_bytes c.args.a.now c.args.b.now c.bytes.i (omega arith) (omega arith)))
      c.bytes.invariant.1,
)

pub returns : goal.returns
returns c =
    same_all c.bytes.out _ 16 c.bytes.invariant.0 (length-xor_bytes c.args.a.now c.args.b.now (omega arith) ∙ omega arith)
    (λ k low. c.bytes.invariant.1 k (omega arith))
