use Rattle.gateway_book.proofs.OnAirLaws.{on_air_keeps_limit}
use Rattle.gateway_book.proofs.laws.law_on_air_keeps_limit.Goals as goal

pub returns : goal.returns
returns c = on_air_keeps_limit
