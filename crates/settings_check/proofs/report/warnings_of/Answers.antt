use Rattle.std.proofs.Common.{rules, ◌∙◌, ap}
use Rattle.std.proofs.lemmas.Fn.{filter_same}
use Rattle.settings_check.specs.Agreement.{has_error}
use Rattle.settings_check.proofs.AgreementLemmas.{kept-no_error}
use Rattle.settings_check.proofs.report.warnings_of.Goals as goal

pub returns : goal.returns
returns c =
    ap has_error (filter_same _ _ _ (λ x b f' k. search rules) _ _ c.retain.ensures.filtered) ∙ kept-no_error c.args.found.items
