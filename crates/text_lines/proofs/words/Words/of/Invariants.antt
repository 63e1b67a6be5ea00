use Rattle.std.proofs.Common.{◌≡◌, ◌≤◌, ◌++◌, ◌-◌, length, map, take}
use Rattle.text_lines.specs.Words.{words_of}
use Rattle.text_lines.proofs.words.Words.of.Given as goal

abbrev pub invariant-loop-count : goal.invariant-loop-count
invariant-loop-count l = record {
  same : words_of l.line ≡ map (λ word. word.now) (take l.count l.words) ++ words_of l.rest;
  room : l.count ≤ 10;
  fixed : length l.words ≡ 10;
}

abbrev pub decreases-loop-count : goal.decreases-loop-count
decreases-loop-count l = 10 - l.count
