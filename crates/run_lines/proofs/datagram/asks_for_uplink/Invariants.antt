use Rattle.std.proofs.Common.{◌≡◌, length}
use Rattle.std.specs.List.{list_any}
use Rattle.text_lines.specs.Words.{words_of}
use Rattle.run_lines.specs.Datagram.{asks_for_uplink}
use Rattle.run_lines.proofs.datagram.asks_for_uplink.Given as goal

abbrev pub invariant-loop-word : goal.invariant-loop-word
invariant-loop-word l = list_any asks_for_uplink (words_of l.line) ≡ list_any asks_for_uplink (words_of l.rest)

abbrev pub decreases-loop-word : goal.decreases-loop-word
decreases-loop-word l = length l.rest
