use Rattle.std.proofs.Common.{IfOk, sym, ◌∙◌, ap, subst}
use Rattle.settings_text.specs.SettingsOfTable.{settings_of}
use Rattle.settings_text.proofs.SettingsIn.{settings_in-text, settings_in-other}
use Rattle.settings_check.specs.Agreement.{Agrees}
use Rattle.settings_check.proofs.AgreementLemmas.{report-alike}
use Rattle.settings_check.proofs.report.report_of.Goals as goal

pub returns-in-Ok-clause-agrees : goal.returns-in-Ok-clause-agrees
returns-in-Ok-clause-agrees c =
    subst (λ said. IfOk c.report_of_text.result (λ report. Agrees said report.findings.items))
    (sym (settings_in-text _ c.in-Ok.ensures.cases.1 ∙ ap settings_of (sym c.in-Ok.ensures.cases.0)))
    c.report_of_text.ensures

pub returns-in-Ok-clause-alike : goal.returns-in-Ok-clause-alike
returns-in-Ok-clause-alike c = report-alike c.report_of_text.result _ (returns-in-Ok-clause-agrees c)

pub returns-in_ok-words-in-Err-clause-agrees : goal.returns-in_ok-words-in-Err-clause-agrees
returns-in_ok-words-in-Err-clause-agrees c =
    subst (λ said. IfOk c.report_of_no_toml.result (λ report. Agrees said report.findings.items))
    (sym (settings_in-other _ c.in-Err.ensures.cases.0)) c.report_of_no_toml.ensures

pub returns-in_ok-words-in-Err-clause-alike : goal.returns-in_ok-words-in-Err-clause-alike
returns-in_ok-words-in-Err-clause-alike c =
    report-alike c.report_of_no_toml.result _ (returns-in_ok-words-in-Err-clause-agrees c)
