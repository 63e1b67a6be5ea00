use Rattle.std.proofs.Common.{sym, arith}
use Rattle.serve_journal.proofs.Shapes.{sent_in-fewer, sent_in-more}
use Rattle.serve_journal.proofs.entry_words.sent_in.Goals as goal

pub returns-in_default : goal.returns-in_default
returns-in_default c = sym (sent_in-fewer _ c.args.fields.now (omega (arith, c.in_default.len_below)))

pub returns-in-len6-up : goal.returns-in-len6-up
returns-in-len6-up c = sym (sent_in-more _ c.args.fields.now (omega (arith, c.in-len6-up.len_at_least)))
