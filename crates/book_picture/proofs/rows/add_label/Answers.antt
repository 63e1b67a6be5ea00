use Rattle.std.proofs.Common.{append_assoc}
use Rattle.book_picture.proofs.rows.add_label.Goals as goal

pub returns-clause-text : goal.returns-clause-text
returns-clause-text c =
    rw (
      c.number-3.ensures.text,
      c.limit_us.ensures,
      c.text-5.ensures.text,
      c.number-2.ensures.text,
      c.text-4.ensures.text,
      c.text-3.ensures.text,
      c.letter_of.ensures.letter,
      c.text-2.ensures.text,
      c.number.ensures.text,
      c.row_of.ensures.row,
      c.text.ensures.text,
    )
    (simp append_assoc)
