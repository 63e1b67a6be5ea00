use Rattle.resv_list.proofs.OnAirLemmas.{on_air_is_counted}
use Rattle.resv_list.proofs.laws.law_on_air_is_counted.Goals as goal

pub returns : goal.returns
returns c = on_air_is_counted
