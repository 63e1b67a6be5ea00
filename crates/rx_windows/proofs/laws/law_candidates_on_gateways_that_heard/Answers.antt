use Rattle.rx_windows.proofs.WindowLaws.{on_gateways_that_heard}
use Rattle.rx_windows.proofs.laws.law_candidates_on_gateways_that_heard.Goals as goal

pub returns : goal.returns
returns c = on_gateways_that_heard
