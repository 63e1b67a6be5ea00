use Rattle.std.proofs.Common.{◌++◌, refl}
use Rattle.std.proofs.lemmas.Result.{on_ok_weaker, on_err_weaker}
use Rattle.book_picture.specs.Fixed.{style_lines, frame_lines}
use Rattle.book_picture.specs.Lines.{opening_lines, lower_rows, upper_rows}
use Rattle.book_picture.proofs.Parts.{put_first, front_first, put_second, front_second}
use Rattle.book_picture.proofs.drawing.put_head.Goals as goal

pub returns-in-Err-clause-err : goal.returns-in-Err-clause-err
returns-in-Err-clause-err g c =
    front_first (g.W.ByteOut.taken c.args.writer.now) (g.W.ByteOut.taken c.put_opening.new.writer) c.args.output.now (opening_lines c.args.book.now.id c.args.book.now.floor c.args.from ++ (style_lines ++ frame_lines))
    (lower_rows c.args.book.now.list c.args.from ++ upper_rows c.args.book.now.list c.args.from) _ (rw (c.id.ensures, c.totals.ensures.totals) refl) c.in-Err.ensures.err

pub returns-clause-ok : goal.returns-clause-ok
returns-clause-ok g c =
    let a = g.W.ByteOut.taken c.args.writer.now in
    let b = g.W.ByteOut.taken c.put_opening.new.writer in
    let old = c.args.output.now in
    on_ok_weaker c.put_rows.result (λ wrote.
    put_second a b old (opening_lines c.args.book.now.id c.args.book.now.floor c.args.from ++ (style_lines ++ frame_lines)) (g.W.ByteOut.taken c.put_rows.new.writer) (lower_rows c.args.book.now.list c.args.from ++ upper_rows c.args.book.now.list c.args.from) c.put_opening.new.output _ (refl)
    (put_first a b old (opening_lines c.args.book.now.id c.args.book.now.floor c.args.from ++ (style_lines ++ frame_lines)) _ c.put_opening.new.output (rw (c.id.ensures, c.totals.ensures.totals) refl) c.in-Ok.ensures.ok) c.put_rows.new.output wrote)
    c.put_rows.ensures.ok

pub returns-clause-err : goal.returns-clause-err
returns-clause-err g c =
    let a = g.W.ByteOut.taken c.args.writer.now in
    let b = g.W.ByteOut.taken c.put_opening.new.writer in
    let old = c.args.output.now in
    on_err_weaker c.put_rows.result (λ wrote.
    front_second a b old (opening_lines c.args.book.now.id c.args.book.now.floor c.args.from ++ (style_lines ++ frame_lines)) (g.W.ByteOut.taken c.put_rows.new.writer) (lower_rows c.args.book.now.list c.args.from ++ upper_rows c.args.book.now.list c.args.from) c.put_opening.new.output _ (refl)
    (put_first a b old (opening_lines c.args.book.now.id c.args.book.now.floor c.args.from ++ (style_lines ++ frame_lines)) _ c.put_opening.new.output (rw (c.id.ensures, c.totals.ensures.totals) refl) c.in-Ok.ensures.ok) wrote)
    c.put_rows.ensures.err
