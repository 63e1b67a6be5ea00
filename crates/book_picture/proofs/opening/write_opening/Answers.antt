use Rattle.std.proofs.Common.{append_assoc}
use Rattle.book_picture.proofs.opening.write_opening.Goals as goal

pub returns : goal.returns
returns c =
    rw (
      c.add_floor.ensures.text,
      c.text-4.ensures.text,
      c.add_hour-2.ensures.text,
      c.text-3.ensures.text,
      c.add_hour.ensures.text,
      c.text-2.ensures.text,
      c.text.ensures.text,
      c.clear.ensures,
    )
    (simp append_assoc)
