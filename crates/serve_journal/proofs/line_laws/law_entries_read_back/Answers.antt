use Rattle.serve_journal.proofs.ReadBack.{read_back}
use Rattle.serve_journal.proofs.line_laws.law_entries_read_back.Goals as goal

pub returns : goal.returns
returns c = read_back
