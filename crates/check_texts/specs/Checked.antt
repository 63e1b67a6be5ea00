use Rattle.std.specs.Prelude.{ℕ, ◌≡◌, ◌↔◌, List, Option, Some, None, ⊤, IsErr}
use Rattle.std.specs.Io.KnownBytes.{Appends, Consumes}
use Rattle.text_lines.specs.Writing.{WritesFront}
use Rattle.text_words.specs.declared.fault.TextFault.{TextFault}
use Rattle.text_words.specs.declared.fault.TextFault.TheVariants.{Write, Settings, NoMemory}
use Rattle.settings_text.specs.SettingsOfBytes.{settings_in}
use Rattle.settings_check.specs.declared.finding.Finding.{Finding}
use Rattle.settings_check.specs.declared.verdict.Verdict.{Verdict}
use Rattle.settings_check.specs.declared.verdict.Verdict.TheVariants.{Refused}
use Rattle.settings_check.specs.Agreement.{Agrees, report_text}
use Rattle.settings_check.specs.Verdict.{verdict_of}
use Rattle.run_lines.specs.RunInput.{settings_part}

-- The output of `airbook check`, and what its text promises of a reader and a writer that tell their bytes.

-- all these bytes were read; the writer took a line for each of some findings, and a summary; the findings agree with what a run
-- answers to the same settings, and the verdict is theirs
pub record IsChecked (bytes : List ℕ) (left_after before after : Option (List ℕ)) (verdict : Verdict) : Type 0 where
  pub findings : List Finding
  pub summary : List ℕ
  pub agrees : Agrees (settings_in (settings_part bytes)) findings
  pub consumed : Consumes (Some bytes) left_after bytes
  pub written : Appends before after (report_text findings summary)
  pub told : verdict ≡ verdict_of findings

-- the same where the reader tells what it has left
abbrev pub Checks : Option (List ℕ) → Option (List ℕ) → Option (List ℕ) → Option (List ℕ) → Verdict → Type 0
Checks None left_after before after verdict = ⊤
Checks (Some bytes) left_after before after verdict = IsChecked bytes left_after before after verdict

-- Refused comes just where a run refuses the settings
abbrev pub RefusesAlike : Option (List ℕ) → Verdict → Type 0
RefusesAlike None verdict = ⊤
RefusesAlike (Some bytes) verdict = (verdict ≡ Refused) ↔ IsErr (settings_in (settings_part bytes))

-- all these bytes were read; the writer took a front of the lines of findings that agree with what a run answers, and a summary
pub record IsCheckedInPart (bytes : List ℕ) (left_after before after : Option (List ℕ)) : Type 0 where
  pub findings : List Finding
  pub summary : List ℕ
  pub agrees : Agrees (settings_in (settings_part bytes)) findings
  pub consumed : Consumes (Some bytes) left_after bytes
  pub written : WritesFront before after (report_text findings summary)

-- where a write failed, the same for a reader that tells what it has left
abbrev pub ChecksInPart : Option (List ℕ) → Option (List ℕ) → Option (List ℕ) → Option (List ℕ) → Type 0
ChecksInPart None left_after before after = ⊤
ChecksInPart (Some bytes) left_after before after = IsCheckedInPart bytes left_after before after

-- why a report was not written whole: a call of the writer failed, or a growth was refused
abbrev pub IsWriteFault : TextFault → Type 0
IsWriteFault Write = ⊤
IsWriteFault NoMemory = ⊤
IsWriteFault other = ⊥

-- settings that are refused stop no check
abbrev pub IsCheckFault : TextFault → Type 0
IsCheckFault (Settings name) = ⊥
IsCheckFault other = ⊤
