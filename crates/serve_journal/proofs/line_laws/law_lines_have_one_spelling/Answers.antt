use Rattle.serve_journal.proofs.Spelling.{one_spelling}
use Rattle.serve_journal.proofs.line_laws.law_lines_have_one_spelling.Goals as goal

pub returns : goal.returns
returns c = one_spelling
