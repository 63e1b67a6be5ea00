use Rattle.gateway_book.proofs.ForgottenSteps.{forgetting_is_unseen}
use Rattle.gateway_book.proofs.laws.law_forgetting.Goals as goal

pub returns : goal.returns
returns c = forgetting_is_unseen
