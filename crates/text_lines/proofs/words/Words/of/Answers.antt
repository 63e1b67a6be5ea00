use Rattle.std.proofs.Common.{sym, ap, ◌∙◌, ◌++◌, map, take, inl, arith, append-nil}
use Rattle.text_lines.specs.Words.{words_of}
use Rattle.text_lines.proofs.WordLemmas.{first_words, map_take_length}
use Rattle.text_lines.proofs.words.Words.of.Goals as goal

pub returns-in_default-clause-words : goal.returns-in_default-clause-words
returns-in_default-clause-words c =
    let found = map_take_length (λ word. word.now) c.loop-count.words c.loop-count.count (omega arith) in
    first_words (map (λ word. word.now) (take c.loop-count.count c.loop-count.words)) (words_of c.loop-count.rest.now) _ 10
    c.loop-count.invariant.same (omega (arith, found)) (inl c.in_default.ensures.word)

pub returns-in_default-clause-all : goal.returns-in_default-clause-all
returns-in_default-clause-all c = λ few.
    let found = map (λ word. word.now) (take c.loop-count.count c.loop-count.words) in
    sym (c.loop-count.invariant.same ∙ ap (λ l. found ++ l) c.in_default.ensures.word ∙ append-nil found)
