use Rattle.std.proofs.Common.{◌≡◌, ◌-◌, List, ℕ}
use Rattle.aes_cmac.specs.Aes.{state_after}
use Rattle.aes_cmac.specs.Words.{state_bytes, IsSchedule}
use Rattle.aes_cmac.proofs.cipher.encrypt_block.Given as goal

abbrev pub invariant-rounds : goal.invariant-rounds
invariant-rounds l = (key : List ℕ) → IsSchedule l.words key → state_bytes l.v ≡ state_after key l.block (l.round - 1)
