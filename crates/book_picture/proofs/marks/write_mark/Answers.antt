use Rattle.std.proofs.Common.{◌+◌}
use Rattle.std.specs.Prelude.{codes, decimal}
use Rattle.radio_airtime.specs.DataRate.{number_of}
use Rattle.book_picture.specs.Scale.{across, top_of, width_of}
use Rattle.book_picture.proofs.Parts.{nine_pieces}
use Rattle.book_picture.proofs.marks.write_mark.Goals as goal

pub returns : goal.returns
returns c =
    let r = c.args.member.now in
    rw (
      c.text-5.ensures.text,
      c.number-5.ensures.text,
      c.width_of.ensures,
      c.text-4.ensures.text,
      c.number-4.ensures.text,
      c.row_of.ensures.row,
      c.text-3.ensures.text,
      c.number-3.ensures.text,
      c.across.ensures,
      c.text-2.ensures.text,
      c.number-2.ensures.text,
      c.from.ensures,
      c.number.ensures,
      c.text.ensures.text,
      c.clear.ensures,
      c.band.ensures,
    )
    (nine_pieces (codes "<rect class=\"d") (decimal (number_of r.rate)) (codes "\" x=\"") (decimal (across c.args.from r.start))
    (codes "\" y=\"") (decimal (top_of c.band.result + 60000)) (codes "\" width=\"") (decimal (width_of r))
    (codes "\" height=\"30000\"/>"))
