use Rattle.serve_opening.proofs.OwnLaws.{each_takes_its_own}
use Rattle.serve_opening.proofs.laws.law_each_gateway_takes_its_own.Goals as goal

pub returns : goal.returns
returns c = each_takes_its_own
