use Rattle.book_texts.proofs.LawLemmas.{plan_tells_starts}
use Rattle.book_texts.proofs.laws.law_plan_tells_starts.Goals as goal

pub returns : goal.returns
returns c = plan_tells_starts
