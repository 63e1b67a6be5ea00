use Rattle.std.proofs.Common.{◌++◌, ◌∙◌, refl}
use Rattle.std.proofs.lemmas.Result.{on_ok_weaker, on_err_weaker}
use Rattle.book_picture.specs.Fixed.{style_lines, frame_lines}
use Rattle.book_picture.specs.Lines.{opening_lines}
use Rattle.book_picture.proofs.Parts.{put_first, front_first, put_second, front_second}
use Rattle.book_picture.proofs.drawing.put_opening.Goals as goal

pub returns-in-Err-clause-err : goal.returns-in-Err-clause-err
returns-in-Err-clause-err g c =
    front_first (g.W.ByteOut.taken c.args.writer.now) (g.W.ByteOut.taken c.put.new.writer) c.args.output.now (opening_lines c.args.id c.args.floor c.args.from)
    (style_lines ++ frame_lines) _ (c.as_slice.ensures.bytes ∙ c.write_opening.ensures) c.in-Err.ensures.err

pub returns-clause-ok : goal.returns-clause-ok
returns-clause-ok g c =
    let a = g.W.ByteOut.taken c.args.writer.now in
    let b = g.W.ByteOut.taken c.put.new.writer in
    let old = c.args.output.now in
    on_ok_weaker c.put_fixed.result (λ wrote.
    put_second a b old (opening_lines c.args.id c.args.floor c.args.from) (g.W.ByteOut.taken c.put_fixed.new.writer) (style_lines ++ frame_lines) c.put.new.self _ (refl)
    (put_first a b old (opening_lines c.args.id c.args.floor c.args.from) _ c.put.new.self (c.as_slice.ensures.bytes ∙ c.write_opening.ensures) c.in-Ok.ensures.ok) c.put_fixed.new.output wrote)
    c.put_fixed.ensures.ok

pub returns-clause-err : goal.returns-clause-err
returns-clause-err g c =
    let a = g.W.ByteOut.taken c.args.writer.now in
    let b = g.W.ByteOut.taken c.put.new.writer in
    let old = c.args.output.now in
    on_err_weaker c.put_fixed.result (λ wrote.
    front_second a b old (opening_lines c.args.id c.args.floor c.args.from) (g.W.ByteOut.taken c.put_fixed.new.writer) (style_lines ++ frame_lines) c.put.new.self _ (refl)
    (put_first a b old (opening_lines c.args.id c.args.floor c.args.from) _ c.put.new.self (c.as_slice.ensures.bytes ∙ c.write_opening.ensures) c.in-Ok.ensures.ok) wrote)
    c.put_fixed.ensures.err
