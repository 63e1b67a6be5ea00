use Rattle.std.proofs.Common.{append_assoc}
use Rattle.book_picture.proofs.rows.add_bar.Goals as goal

pub returns-clause-text : goal.returns-clause-text
returns-clause-text c =
    rw (
      c.text-3.ensures.text,
      c.number-2.ensures.text,
      c.bar_of.ensures,
      c.text-2.ensures.text,
      c.number.ensures.text,
      c.row_of.ensures.row,
      c.text.ensures.text,
    )
    (simp append_assoc)
