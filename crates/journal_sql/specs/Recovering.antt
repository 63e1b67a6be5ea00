use Rattle.std.specs.Prelude.{◌≡◌, ℕ, List, Option, Result, Ok, Err}
use Rattle.text_lines.specs.Writing.{WritesFront}
use Rattle.serve_journal.specs.declared.recovering.RecoverFault.{RecoverFault}
use Rattle.serve_journal.specs.declared.recovering.RecoverFault.TheVariants.{Unread}
use Rattle.serve_journal.specs.Reading.{Said}
use Rattle.journal_sql.specs.Sql.{sql_of}

-- A state as SQL, out of a journal.

-- the text of what was read, or why there is none
abbrev pub sql_said : Said → Result (List ℕ) RecoverFault
sql_said (Err fault) = Err (Unread fault)
sql_said (Ok j) = Ok (sql_of j)

-- what the writer took where not all of the text was written: a front of it, and nothing where there is none
abbrev pub TookFront : Result (List ℕ) RecoverFault → Option (List ℕ) → Option (List ℕ) → Type 0
TookFront (Err fault) before after = after ≡ before
TookFront (Ok text) before after = WritesFront before after text
