use Rattle.gateway_book.proofs.EarliestValue.{earliest_is_exact}
use Rattle.gateway_book.proofs.laws.law_earliest_is_exact.Goals as goal

pub returns : goal.returns
returns c = earliest_is_exact
