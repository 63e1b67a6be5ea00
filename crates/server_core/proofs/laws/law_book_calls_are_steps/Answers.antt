use Rattle.server_core.proofs.BookSteps.{book_calls_are_steps}
use Rattle.server_core.proofs.laws.law_book_calls_are_steps.Goals as goal

pub returns : goal.returns
returns g c = book_calls_are_steps _
