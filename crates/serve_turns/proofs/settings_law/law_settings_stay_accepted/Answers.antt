use Rattle.serve_turns.proofs.SettingsStay.{settings_stay_accepted}
use Rattle.serve_turns.proofs.settings_law.law_settings_stay_accepted.Goals as goal

pub returns : goal.returns
returns g c = settings_stay_accepted g.row.A.Denot
