use Rattle.std.proofs.Common.{refl, arith, rules}
use Rattle.lora_frame.proofs.Streams.{xored_more}
use Rattle.lora_frame.proofs.blocks.xored_with.Goals as goal

pub bytes-preserved : goal.bytes-preserved
bytes-preserved c = (
  search rules,
  xored_more _ _ _ _ _ (omega (arith, c.bytes.invariant.0)) (omega arith) (omega arith) refl c.bytes.invariant.1,
)
