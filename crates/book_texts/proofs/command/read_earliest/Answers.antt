use Rattle.std.proofs.Common.{sym, arith}
use Rattle.book_texts.proofs.LineLemmas.{earliest_command-fewer, earliest_command-more}
use Rattle.book_texts.proofs.command.read_earliest.Goals as goal

pub returns-in_default : goal.returns-in_default
returns-in_default c = sym (earliest_command-fewer _ c.args.words.now (omega (arith, c.in_default.len_below)))

pub returns-in_default-2 : goal.returns-in_default-2
returns-in_default-2 c = sym (earliest_command-more _ c.args.words.now (omega (arith, c.in_default.len_at_least)))
