use Rattle.std.proofs.Common.{append_assoc}
use Rattle.book_texts.proofs.report.write_totals.Goals as goal

pub returns-clause-text : goal.returns-clause-text
returns-clause-text c =
    rw (
      c.add_line-4.ensures.text,
      c.text-2.ensures.text,
      c.add_number-2.ensures.text,
      c.add_number.ensures.text,
      c.text.ensures.text,
      c.add_line-3.ensures.text,
      c.add_line-2.ensures.text,
      c.add_line.ensures.text,
      c.clear.ensures,
    )
    (simp append_assoc)
