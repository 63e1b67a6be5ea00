use Rattle.std.proofs.Common.{◌≡◌, ◌<◌, ℕ, length, get_or}
use Rattle.aes_cmac.specs.Aes.{xor_bytes}
use Rattle.aes_cmac.proofs.state.xor_of.Given as goal

abbrev pub invariant-bytes : goal.invariant-bytes
invariant-bytes l = (length l.out ≡ 16) × ((k : ℕ) → k < l.i → get_or l.out k 0 ≡ get_or (xor_bytes l.a l.b) k 0)
