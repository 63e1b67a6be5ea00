use Rattle.gateway_book.proofs.BusiestLaws.{busiest_is_exact}
use Rattle.gateway_book.proofs.laws.law_busiest_is_exact.Goals as goal

pub returns : goal.returns
returns c = busiest_is_exact
