use Rattle.resv_list.proofs.NearestLemmas.{nearest_are_found}
use Rattle.resv_list.proofs.laws.law_nearest_are_found.Goals as goal

pub returns : goal.returns
returns c = nearest_are_found
