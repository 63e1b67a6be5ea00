use Rattle.std.proofs.Common.{sym, arith}
use Rattle.book_texts.proofs.LineLemmas.{book_command-more}
use Rattle.book_texts.proofs.command.read_book.Goals as goal

pub returns-in_default-2 : goal.returns-in_default-2
returns-in_default-2 c = sym (book_command-more _ c.args.words.now (omega (arith, c.in_default.len_at_least)))
