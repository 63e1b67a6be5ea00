use Rattle.book_texts.proofs.LawLemmas.{answers_come_first}
use Rattle.book_texts.proofs.laws.law_answers_come_first.Goals as goal

pub returns : goal.returns
returns c = answers_come_first
