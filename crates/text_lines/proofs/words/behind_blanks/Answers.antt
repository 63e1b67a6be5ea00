use Rattle.std.proofs.Common.{rules}
use Rattle.std.proofs.lemmas.List.{take_rest}
use Rattle.text_lines.proofs.WordLemmas.{words_of-blanks}
use Rattle.text_lines.proofs.words.behind_blanks.Goals as goal

pub returns-clause-words : goal.returns-clause-words
returns-clause-words c = rw take_rest (words_of-blanks c.args.line.now c.unwrap_or-start.result (λ k h. search rules))
