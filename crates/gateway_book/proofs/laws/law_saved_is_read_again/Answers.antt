use Rattle.gateway_book.proofs.SavedAgain.{saved_is_read_again}
use Rattle.gateway_book.proofs.laws.law_saved_is_read_again.Goals as goal

pub returns : goal.returns
returns c = saved_is_read_again
