use Rattle.std.proofs.Common.{List, ℕ, Option, refl}
use Rattle.std.specs.Prelude.{Result, Ok, Err}
use Rattle.text_lines.specs.Writing.{WritesAllBut-refl}
use Rattle.serve_journal.specs.declared.recovering.RecoverFault.{RecoverFault}
use Rattle.serve_journal.specs.Reading.{journal_of}
use Rattle.journal_sql.specs.Recovering.{sql_said, TookFront}
use Rattle.journal_sql.proofs.recovering.recover_sql.Goals as goal

took_nothing : (said : Result (List ℕ) RecoverFault) (taken : Option (List ℕ)) → TookFront said taken taken
took_nothing (Ok text) taken = (text, WritesAllBut-refl taken text)
took_nothing (Err fault) taken = refl

pub returns-in-Err-clause-front : goal.returns-in-Err-clause-front
returns-in-Err-clause-front g c = took_nothing (sql_said (journal_of c.args.bytes.now)) (g.W.ByteOut.taken c.args.writer.now)

pub returns-in-Ok-write_sql-clause-ok : goal.returns-in-Ok-write_sql-clause-ok
returns-in-Ok-write_sql-clause-ok g c = rw c.in-Ok.ensures c.in-Ok-write_sql.ensures.ok
