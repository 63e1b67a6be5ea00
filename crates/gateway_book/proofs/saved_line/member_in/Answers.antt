use Rattle.std.proofs.Common.{sym, arith}
use Rattle.gateway_book.proofs.SavedWords.{member_in-fewer, member_in-more}
use Rattle.gateway_book.proofs.saved_line.member_in.Goals as goal

pub returns-in_default : goal.returns-in_default
returns-in_default c = sym (member_in-fewer _ c.args.words.now (omega (arith, c.in_default.len_below)))

pub returns-in_default-3 : goal.returns-in_default-3
returns-in_default-3 c = sym (member_in-more _ c.args.words.now (omega (arith, c.in_default.len_at_least)))
