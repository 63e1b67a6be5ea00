use Rattle.gateway_book.proofs.ApartLaws.{first_has_least_start}
use Rattle.gateway_book.proofs.laws.law_first_has_least_start.Goals as goal

pub returns : goal.returns
returns c = first_has_least_start
