use Rattle.std.proofs.Common.{◌≡◌, ◌<◌, ℕ, length, get_or}
use Rattle.aes_cmac.specs.Mac.{shifted_left}
use Rattle.aes_cmac.proofs.subkeys.shifted.Given as goal

abbrev pub invariant-bytes : goal.invariant-bytes
invariant-bytes l = (length l.out ≡ 16) × ((k : ℕ) → k < l.i → get_or l.out k 0 ≡ get_or (shifted_left l.block) k 0)
