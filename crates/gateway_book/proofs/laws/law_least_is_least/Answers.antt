use Rattle.gateway_book.proofs.LeastLaws.{least_is_least}
use Rattle.gateway_book.proofs.laws.law_least_is_least.Goals as goal

pub returns : goal.returns
returns c = least_is_least
