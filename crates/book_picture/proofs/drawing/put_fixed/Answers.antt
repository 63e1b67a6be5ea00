use Rattle.std.proofs.Common.{refl}
use Rattle.std.proofs.lemmas.Result.{on_ok_weaker, on_err_weaker}
use Rattle.book_picture.specs.Fixed.{style_lines, frame_lines}
use Rattle.book_picture.proofs.Parts.{put_first, front_first, put_second, front_second}
use Rattle.book_picture.proofs.drawing.put_fixed.Goals as goal

pub returns-in-Err-clause-err : goal.returns-in-Err-clause-err
returns-in-Err-clause-err g c =
    front_first (g.W.ByteOut.taken c.args.writer.now) (g.W.ByteOut.taken c.put.new.writer) c.args.output.now style_lines
    frame_lines _ refl c.in-Err.ensures.err

pub returns-clause-ok : goal.returns-clause-ok
returns-clause-ok g c =
    let a = g.W.ByteOut.taken c.args.writer.now in
    let b = g.W.ByteOut.taken c.put.new.writer in
    on_ok_weaker c.put-2.result (λ wrote.
    put_second a b c.args.output.now style_lines (g.W.ByteOut.taken c.put-2.new.writer) frame_lines c.put.new.self _ refl
    (put_first a b c.args.output.now style_lines _ c.put.new.self refl c.in-Ok.ensures.ok) c.put-2.new.self wrote)
    c.put-2.ensures.ok

pub returns-clause-err : goal.returns-clause-err
returns-clause-err g c =
    let a = g.W.ByteOut.taken c.args.writer.now in
    let b = g.W.ByteOut.taken c.put.new.writer in
    on_err_weaker c.put-2.result (λ wrote.
    front_second a b c.args.output.now style_lines (g.W.ByteOut.taken c.put-2.new.writer) frame_lines c.put.new.self _ refl
    (put_first a b c.args.output.now style_lines _ c.put.new.self refl c.in-Ok.ensures.ok) wrote)
    c.put-2.ensures.err
