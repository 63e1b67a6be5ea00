-- Lemmas on findings beside what a server answers.
use Rattle.std.proofs.Common.{◌≡◌, ◌∷◌, [], ◌||◌, ◌↔◌, ℕ, Bool, true, false, not, if◌then◌else◌, List, Result, Ok, Err, IfOk, IsErr}
use Rattle.std.proofs.Common.{refl, sym, ap, ◌∙◌, true≢false}
use Rattle.std.proofs.lemmas.Map.Views.{any-filter_same}
use Rattle.std.specs.List.{filter}
use Rattle.server_desk.specs.Settings.{SettingLists}
use Rattle.settings_text.specs.declared.settings_fault.ReadFault.{ReadFault}
use Rattle.settings_text.specs.SettingsFaultName.{name_of}
use Rattle.settings_check.specs.declared.finding.Finding.{Finding}
use Rattle.settings_check.specs.declared.finding.Severity.{Severity}
use Rattle.settings_check.specs.declared.finding.Severity.TheVariants.{Error, Warning}
use Rattle.settings_check.specs.declared.report.Report.{Report}
use Rattle.settings_check.specs.declared.verdict.Verdict.{Verdict}
use Rattle.settings_check.specs.declared.verdict.Verdict.TheVariants.{Refused}
use Rattle.settings_check.specs.Agreement.{is_error, tells, has_error, tells_fault, Agrees}
use Rattle.settings_check.specs.Verdict.{verdict_of, taken_with}

-- what tells a name is an error
tells-error : (name : List ℕ) (s : Severity) → tells name s ≡ true → is_error s ≡ true
tells-error name (Error fault) h = refl
tells-error name Warning h = absurd (true≢false (sym h))

-- where one of some findings tells a fault's name, one of them is an error
pub tells-has_error : (fault : ReadFault) (findings : List Finding) → tells_fault fault findings ≡ true
    → has_error findings ≡ true
tells-has_error fault [] h = h
tells-has_error fault (f ∷ more) h =
    one (tells (name_of fault) f.severity) (tells_fault fault more) (is_error f.severity) (has_error more) h
    (tells-error (name_of fault) f.severity) (tells-has_error fault more)
  where
    one : (a b c d : Bool) → (a || b) ≡ true → (a ≡ true → c ≡ true) → (b ≡ true → d ≡ true) → (c || d) ≡ true
    one true b c d h first rest = ap (λ t. t || d) (first refl)
    one false b true d h first rest = refl
    one false b false d h first rest = rest h

-- where the errors of some findings are left out, none is left
pub kept-no_error : (findings : List Finding) → has_error (filter (λ f. not (is_error f.severity)) findings) ≡ false
kept-no_error findings =
    any-filter_same (λ f. is_error f.severity) (λ f. not (is_error f.severity)) false (λ f e. ap not e) findings

abbrev is_refused : Verdict → Bool
is_refused Refused = true
is_refused other = false

-- where no finding is an error, they don't come to Refused
taken_with-other : (findings : List Finding) → ¬ (taken_with findings ≡ Refused)
taken_with-other [] e = true≢false (sym (ap is_refused e))
taken_with-other (f ∷ more) e = true≢false (sym (ap is_refused e))

-- findings that agree with what a server answers come to Refused just where it refuses
pub refused-alike : (said : Result SettingLists ReadFault) (findings : List Finding) → Agrees said findings
    → (verdict_of findings ≡ Refused) ↔ IsErr said
refused-alike (Ok settings) findings h = (
  λ e. absurd (taken_with-other findings (sym (ap (λ (t : Bool). if t then Refused else taken_with findings) h) ∙ e)),
  λ none. absurd (true≢false (sym none)),
)
refused-alike (Err fault) findings h = (
  λ e. refl,
  λ some. ap (λ (t : Bool). if t then Refused else taken_with findings) (tells-has_error fault findings h),
)

-- the same of a report, where there is one
pub report-alike : {E : Type 0} (r : Result Report E) (said : Result SettingLists ReadFault)
    → IfOk r (λ report. Agrees said report.findings.items)
    → IfOk r (λ report. (verdict_of report.findings.items ≡ Refused) ↔ IsErr said)
report-alike (Ok report) said h = refused-alike said report.findings.items h
report-alike (Err fault) said h = tt
