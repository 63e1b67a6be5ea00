use Rattle.run_lines.proofs.WholeRunLemmas.{lines_are_whole}
use Rattle.run_lines.proofs.laws.law_lines_are_whole.Goals as goal

pub returns : goal.returns
returns c = lines_are_whole
