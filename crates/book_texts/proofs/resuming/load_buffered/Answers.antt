use Rattle.std.proofs.Common.{sym, ◌∙◌}
use Rattle.book_texts.proofs.resuming.load_buffered.Goals as goal

pub returns-clause-rest : goal.returns-clause-rest
returns-clause-rest g c = λ bytes known. c.load-loaded.new.reader.rest bytes (sym c.requires.bytes ∙ known)
