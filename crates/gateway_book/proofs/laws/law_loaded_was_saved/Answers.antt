use Rattle.gateway_book.proofs.SavedWas.{loaded_was_saved}
use Rattle.gateway_book.proofs.laws.law_loaded_was_saved.Goals as goal

pub returns : goal.returns
returns c = loaded_was_saved
