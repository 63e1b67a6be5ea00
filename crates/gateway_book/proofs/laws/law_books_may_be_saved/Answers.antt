use Rattle.gateway_book.proofs.MaySave.{books_may_be_saved}
use Rattle.gateway_book.proofs.laws.law_books_may_be_saved.Goals as goal

pub returns : goal.returns
returns c = books_may_be_saved
