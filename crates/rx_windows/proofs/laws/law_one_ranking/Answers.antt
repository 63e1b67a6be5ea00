use Rattle.rx_windows.proofs.RankLemmas.{one_ranking}
use Rattle.rx_windows.proofs.laws.law_one_ranking.Goals as goal

pub returns : goal.returns
returns c = one_ranking
