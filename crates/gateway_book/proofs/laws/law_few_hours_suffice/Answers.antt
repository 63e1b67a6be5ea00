use Rattle.gateway_book.proofs.DutyRow.{few_hours_suffice}
use Rattle.gateway_book.proofs.laws.law_few_hours_suffice.Goals as goal

pub returns : goal.returns
returns c = few_hours_suffice
