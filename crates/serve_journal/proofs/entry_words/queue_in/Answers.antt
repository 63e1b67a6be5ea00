use Rattle.std.proofs.Common.{sym, arith}
use Rattle.serve_journal.proofs.Shapes.{queue_in-fewer, queue_in-more}
use Rattle.serve_journal.proofs.entry_words.queue_in.Goals as goal

pub returns-in_default : goal.returns-in_default
returns-in_default c = sym (queue_in-fewer _ c.args.fields.now (omega (arith, c.in_default.len_below)))

pub returns-in-len4-up : goal.returns-in-len4-up
returns-in-len4-up c = sym (queue_in-more _ c.args.fields.now (omega (arith, c.in-len4-up.len_at_least)))
