use Rattle.book_texts.proofs.LawLemmas.{one_answer_a_line}
use Rattle.book_texts.proofs.laws.law_one_answer_a_line.Goals as goal

pub returns : goal.returns
returns c = one_answer_a_line
