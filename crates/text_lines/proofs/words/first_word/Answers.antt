use Rattle.std.proofs.Common.{◌∙◌, sym, rules, ◌<◌, length}
use Rattle.text_lines.proofs.WordLemmas.{words_of-word}
use Rattle.text_lines.proofs.words.first_word.Goals as goal

pub returns-clause-word : goal.returns-clause-word
returns-clause-word c =
    let some : 0 < length c.behind_blanks-rest.result.now = search rules in
    rw (c.split_at.ensures.front, c.split_at.ensures.back) (sym c.behind_blanks-rest.ensures.words ∙ words_of-word _ _ some
    (c.behind_blanks-rest.ensures.first some) c.first_blank.ensures.within c.first_blank.ensures.before c.first_blank.ensures.at)
