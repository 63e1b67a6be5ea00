use Rattle.std.proofs.Common.{sym, ◌∙◌, ap}
use Rattle.serve_settings.specs.ServeSettings.{serve_settings_of}
use Rattle.airbook_text.proofs.ServeSettingsIn.{serve_settings_in-text, serve_settings_in-other, refused}
use Rattle.airbook_text.proofs.whole_serve_settings.serve_settings_in.Goals as goal

pub returns-in-Err-clause-fault : goal.returns-in-Err-clause-fault
returns-in-Err-clause-fault c =
    refused _ _ c.text_fault.result (λ h. serve_settings_in-other _ c.in-Err.ensures.cases.0) c.text_fault.ensures

pub returns-in-Ok-read_serve_settings-clause-given : goal.returns-in-Ok-read_serve_settings-clause-given
returns-in-Ok-read_serve_settings-clause-given c =
    serve_settings_in-text _ c.in-Ok.ensures.cases.1 ∙ ap serve_settings_of (sym c.in-Ok.ensures.cases.0)
    ∙ c.in-Ok-read_serve_settings.ensures.given

pub returns-in-Err-read_serve_settings-clause-fault : goal.returns-in-Err-read_serve_settings-clause-fault
returns-in-Err-read_serve_settings-clause-fault c =
    refused _ _ c.text_fault-in-Err-read_serve_settings.result
    (λ h. serve_settings_in-text _ c.in-Ok.ensures.cases.1 ∙ ap serve_settings_of (sym c.in-Ok.ensures.cases.0)
    ∙ c.in-Err-read_serve_settings.ensures.fault h)
    c.text_fault-in-Err-read_serve_settings.ensures
