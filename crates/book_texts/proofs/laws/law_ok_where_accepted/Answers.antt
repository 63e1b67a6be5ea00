use Rattle.book_texts.proofs.LawLemmas.{ok_where_accepted}
use Rattle.book_texts.proofs.laws.law_ok_where_accepted.Goals as goal

pub returns : goal.returns
returns c = ok_where_accepted
