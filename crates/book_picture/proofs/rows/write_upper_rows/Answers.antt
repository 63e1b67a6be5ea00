use Rattle.std.proofs.Common.{sym}
use Rattle.radio_bands.specs.declared.band.Band.TheVariants.{N, P, Q}
use Rattle.book_picture.specs.Lines.{row_lines}
use Rattle.book_picture.proofs.Parts.{three_texts}
use Rattle.book_picture.proofs.rows.write_upper_rows.Goals as goal

pub returns : goal.returns
returns g c =
    let l = c.args.book.now.list in
    rw (c.add_row-3.ensures.text, c.add_row-2.ensures.text, c.add_row.ensures.text, c.clear.ensures)
    (sym (three_texts (row_lines l c.args.from N) (row_lines l c.args.from P) (row_lines l c.args.from Q)))
