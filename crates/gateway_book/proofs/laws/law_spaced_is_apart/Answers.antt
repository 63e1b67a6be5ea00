use Rattle.gateway_book.proofs.OverlapLaws.{spaced_is_apart}
use Rattle.gateway_book.proofs.laws.law_spaced_is_apart.Goals as goal

pub returns : goal.returns
returns c = spaced_is_apart
