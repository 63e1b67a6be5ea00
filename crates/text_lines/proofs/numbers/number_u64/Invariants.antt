use Rattle.std.proofs.Common.{◌^◌, ◌<◌}
use Rattle.text_lines.proofs.NumberLemmas.{IsFront}
use Rattle.text_lines.proofs.numbers.number_u64.Given as goal

abbrev pub invariant-loop-byte : goal.invariant-loop-byte
invariant-loop-byte l = IsFront l.word l.byte-index l.value × l.value < 2 ^ 64
