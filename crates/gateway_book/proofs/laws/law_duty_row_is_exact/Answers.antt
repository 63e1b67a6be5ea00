use Rattle.gateway_book.proofs.DutyRow.{duty_row_is_exact}
use Rattle.gateway_book.proofs.laws.law_duty_row_is_exact.Goals as goal

pub returns : goal.returns
returns c = duty_row_is_exact
