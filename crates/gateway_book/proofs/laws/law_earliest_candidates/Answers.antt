use Rattle.gateway_book.proofs.EarliestLaws.{earliest_candidates}
use Rattle.gateway_book.proofs.laws.law_earliest_candidates.Goals as goal

pub returns : goal.returns
returns c = earliest_candidates
