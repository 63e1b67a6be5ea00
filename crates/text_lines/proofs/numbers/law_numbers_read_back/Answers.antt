use Rattle.text_lines.proofs.NumberLemmas.{read_back}
use Rattle.text_lines.proofs.numbers.law_numbers_read_back.Goals as goal

pub returns : goal.returns
returns c = read_back
