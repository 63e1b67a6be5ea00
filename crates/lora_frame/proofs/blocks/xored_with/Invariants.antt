use Rattle.std.proofs.Common.{◌≡◌, length, take}
use Rattle.aes_cmac.specs.Aes.{xor_bytes}
use Rattle.lora_frame.proofs.blocks.xored_with.Given as goal

abbrev pub invariant-bytes : goal.invariant-bytes
invariant-bytes l = (length l.out ≡ 16) × (take l.i l.out ≡ xor_bytes (take l.i l.piece) l.block)
