use Rattle.std.proofs.Common.{sym, arith}
use Rattle.serve_journal.proofs.Shapes.{device_in-fewer, device_in-more}
use Rattle.serve_journal.proofs.entry_words.device_in.Goals as goal

pub returns-in_default : goal.returns-in_default
returns-in_default c = sym (device_in-fewer _ c.args.fields.now (omega (arith, c.in_default.len_below)))

pub returns-in-len5-up : goal.returns-in-len5-up
returns-in-len5-up c = sym (device_in-more _ c.args.fields.now (omega (arith, c.in-len5-up.len_at_least)))
