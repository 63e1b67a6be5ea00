use Rattle.std.proofs.Common.{◌≡◌, ◌-◌, ◌<◌, ◌^◌, ℕ, length, map, take, get_or}
use Rattle.aes_cmac.specs.Aes.{key_words}
use Rattle.aes_cmac.specs.Words.{word_bytes}
use Rattle.aes_cmac.proofs.schedule.expanded.Given as goal

abbrev pub invariant-words : goal.invariant-words
invariant-words l =
    (length l.words ≡ 44) × (map word_bytes (take l.i l.words) ≡ key_words l.key (l.i - 4))
    × ((k : ℕ) → get_or l.words k 0 < 2 ^ 32)
