use Rattle.std.proofs.Common.{◌≡◌, ◌+◌, sym, subst, ap, ◌∙◌, None}
use Rattle.gateway_book.specs.declared.totals.Totals.{Totals}
use Rattle.text_lines.specs.Line.{text_of, text_of-append}
use Rattle.text_words.specs.Busiest.{all_busiest_lines}
use Rattle.book_texts.specs.Report.{totals_lines}
use Rattle.book_texts.proofs.ReportLemmas.{report_stands}
use Rattle.book_texts.proofs.report.write_report.Goals as goal

-- the booked airtime is what was cancelled, retired and kept
abbrev IsBalanced : Totals → Type 0
IsBalanced totals = totals.booked ≡ totals.cancelled + totals.retired + totals.kept_airtime

pub returns : goal.returns
returns g c = λ s stood.
    rw (c.add_busiest.ensures, c.write_totals.ensures.text, c.totals.ensures.totals)
    (sym (text_of-append (totals_lines _) (all_busiest_lines None c.args.book.now.list)))
    ∙ ap text_of (report_stands c.args.book.now s (subst IsBalanced c.totals.ensures.totals c.totals.ensures.balanced) stood)
