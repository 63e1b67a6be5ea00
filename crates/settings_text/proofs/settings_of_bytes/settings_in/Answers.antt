use Rattle.std.proofs.Common.{sym, ◌∙◌, ap}
use Rattle.settings_text.specs.SettingsOfTable.{settings_of}
use Rattle.settings_text.proofs.SettingsIn.{settings_in-text, settings_in-other, refused}
use Rattle.settings_text.proofs.settings_of_bytes.settings_in.Goals as goal

pub returns-in-Err-clause-fault : goal.returns-in-Err-clause-fault
returns-in-Err-clause-fault c =
    refused _ _ c.text_fault.result (λ h. settings_in-other _ c.in-Err.ensures.cases.0) c.text_fault.ensures

pub returns-in-Ok-read_settings-clause-given : goal.returns-in-Ok-read_settings-clause-given
returns-in-Ok-read_settings-clause-given c =
    settings_in-text _ c.in-Ok.ensures.cases.1 ∙ ap settings_of (sym c.in-Ok.ensures.cases.0)
    ∙ c.in-Ok-read_settings.ensures.given

pub returns-in-Err-read_settings-clause-fault : goal.returns-in-Err-read_settings-clause-fault
returns-in-Err-read_settings-clause-fault c =
    refused _ _ c.text_fault-in-Err-read_settings.result
    (λ h. settings_in-text _ c.in-Ok.ensures.cases.1 ∙ ap settings_of (sym c.in-Ok.ensures.cases.0)
    ∙ c.in-Err-read_settings.ensures.fault h)
    c.text_fault-in-Err-read_settings.ensures
