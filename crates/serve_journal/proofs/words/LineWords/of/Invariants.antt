use Rattle.std.proofs.Common.{◌≡◌, ◌≤◌, ◌++◌, ◌-◌, length, map, take}
use Rattle.gateway_book.specs.Loading.{words_between}
use Rattle.serve_journal.proofs.words.LineWords.of.Given as goal

abbrev pub invariant-loop-count : goal.invariant-loop-count
invariant-loop-count l = record {
  same : words_between l.line ≡ map (λ word. word.now) (take l.count l.words) ++ words_between l.rest;
  room : l.count ≤ 7;
  fixed : length l.words ≡ 7;
}

abbrev pub decreases-loop-count : goal.decreases-loop-count
decreases-loop-count l = 7 - l.count
