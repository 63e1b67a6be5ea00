use Rattle.book_texts.proofs.LawLemmas.{plan_is_book}
use Rattle.book_texts.proofs.laws.law_plan_is_book.Goals as goal

pub returns : goal.returns
returns c = plan_is_book
