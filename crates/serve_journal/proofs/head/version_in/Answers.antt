use Rattle.std.proofs.Common.{sym, arith}
use Rattle.serve_journal.proofs.HeadShapes.{version_in-fewer, version_in-more}
use Rattle.serve_journal.proofs.head.version_in.Goals as goal

pub returns-in_default : goal.returns-in_default
returns-in_default c = sym (version_in-fewer _ c.args.words.now (omega (arith, c.in_default.len_below)))

pub returns-in-len4-up : goal.returns-in-len4-up
returns-in-len4-up c = sym (version_in-more _ c.args.words.now (omega (arith, c.in-len4-up.len_at_least)))
