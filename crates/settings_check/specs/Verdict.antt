use Rattle.std.specs.Prelude.{List, [], ◌∷◌, if◌then◌else◌}
use Rattle.settings_check.specs.declared.finding.Finding.{Finding}
use Rattle.settings_check.specs.declared.verdict.Verdict.{Verdict}
use Rattle.settings_check.specs.declared.verdict.Verdict.TheVariants.{Clean, Doubtful, Refused}
use Rattle.settings_check.specs.Agreement.{has_error}

-- what findings without an error come to
abbrev pub taken_with : List Finding → Verdict
taken_with [] = Clean
taken_with (f ∷ more) = Doubtful

-- what findings come to
abbrev pub verdict_of : List Finding → Verdict
verdict_of findings = if has_error findings then Refused else taken_with findings
