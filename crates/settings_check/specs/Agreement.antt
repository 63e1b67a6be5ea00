use Rattle.std.specs.Prelude.{ℕ, ◌≡◌, Bool, true, false, List, [], ◌∷◌, ◌++◌, codes, decimal, string_bytes, Result, Ok, Err}
use Rattle.std.specs.List.{list_any}
use Rattle.std.specs.Str.{bytes_eq}
use Rattle.server_desk.specs.Settings.{SettingLists}
use Rattle.settings_text.specs.declared.settings_fault.ReadFault.{ReadFault}
use Rattle.settings_text.specs.SettingsFaultName.{name_of}
use Rattle.settings_check.specs.declared.finding.Finding.{Finding}
use Rattle.settings_check.specs.declared.finding.Severity.{Severity}
use Rattle.settings_check.specs.declared.finding.Severity.TheVariants.{Error, Warning}

-- Findings beside what a server answers to the same settings (docs/FORMATS.md, "airbook check").

-- a server refuses the settings for it
abbrev pub is_error : Severity → Bool
is_error (Error fault) = true
is_error Warning = false

-- a server that refuses the settings for it alone prints this name
abbrev pub tells : List ℕ → Severity → Bool
tells name (Error fault) = bytes_eq (name_of fault) name
tells name Warning = false

-- one of these findings is an error
abbrev pub has_error : List Finding → Bool
has_error findings = list_any (λ f. is_error f.severity) findings

-- one of these findings is an error with this fault's name
abbrev pub tells_fault : ReadFault → List Finding → Bool
tells_fault fault findings = list_any (λ f. tells (name_of fault) f.severity) findings

-- none of them is an error where the settings are taken, and one has the name of the fault for which they are refused
abbrev pub Agrees : Result SettingLists ReadFault → List Finding → Type 0
Agrees (Ok settings) findings = has_error findings ≡ false
Agrees (Err fault) findings = tells_fault fault findings ≡ true

-- how grave it is, in words
abbrev pub severity_words : Severity → List ℕ
severity_words (Error fault) = codes "error " ++ name_of fault
severity_words Warning = codes "warning"

-- a finding's line, with its end
abbrev pub line_of : Finding → List ℕ
line_of f = severity_words f.severity ++ (codes " " ++ (decimal f.place.line ++ (codes ":" ++ (decimal f.place.column
    ++ (codes " " ++ (string_bytes f.words ++ codes "\n"))))))

-- the lines of some findings, and a summary
abbrev pub report_text : List Finding → List ℕ → List ℕ
report_text [] summary = summary
report_text (f ∷ more) summary = line_of f ++ report_text more summary
