use Rattle.std.proofs.Common.{◌^◌, ◌<◌}
use Rattle.text_lines.proofs.NumberLemmas.{IsFront}
use Rattle.forwarder_packets.proofs.scaled.value_of.Given as goal

abbrev pub invariant-loop-byte : goal.invariant-loop-byte
invariant-loop-byte l = IsFront l.digits l.byte-index l.value × l.value < 10 ^ l.byte-index
