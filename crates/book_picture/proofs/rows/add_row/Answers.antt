use Rattle.resv_list.specs.Reservations.{spent}
use Rattle.gateway_book.specs.Busiest.{busiest_of}
use Rattle.book_picture.specs.Lines.{bar_line, label_words, busiest_words}
use Rattle.book_picture.proofs.Parts.{two_lines}
use Rattle.book_picture.proofs.rows.add_row.Goals as goal

pub returns-clause-text : goal.returns-clause-text
returns-clause-text g c =
    let airtime = spent c.args.book.now.list c.args.band c.args.from in
    rw (
      c.add_busiest.ensures.text,
      c.busiest.ensures.value,
      c.add_label.ensures.text,
      c.add_bar.ensures.text,
      c.spent_of-spent.ensures.spent,
    )
    (two_lines c.args.text.now (bar_line c.args.band airtime) (label_words c.args.band airtime)
    (busiest_words (busiest_of c.args.book.now.list c.args.band)))
