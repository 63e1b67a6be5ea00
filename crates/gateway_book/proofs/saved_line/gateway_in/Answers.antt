use Rattle.std.proofs.Common.{sym, arith}
use Rattle.gateway_book.proofs.SavedWords.{gateway_in-fewer}
use Rattle.gateway_book.proofs.saved_line.gateway_in.Goals as goal

pub returns-in_default : goal.returns-in_default
returns-in_default c = sym (gateway_in-fewer c.args.version _ c.args.words.now (omega (arith, c.in_default.len_below)))
