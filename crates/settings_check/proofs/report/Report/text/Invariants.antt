use Rattle.std.proofs.Common.{◌≡◌, ◌++◌, drop, string_bytes}
use Rattle.settings_check.specs.Agreement.{report_text}
use Rattle.settings_check.proofs.report.Report.text.Given as goal

abbrev pub invariant-loop-finding : goal.invariant-loop-finding
invariant-loop-finding l =
    string_bytes l.text ++ report_text (drop l.finding-index l.finding-items) (string_bytes l.self.summary)
    ≡ report_text l.finding-items (string_bytes l.self.summary)
