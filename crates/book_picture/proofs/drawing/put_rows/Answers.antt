use Rattle.std.proofs.Common.{◌∙◌}
use Rattle.std.proofs.lemmas.Result.{on_ok_weaker, on_err_weaker}
use Rattle.book_picture.specs.Lines.{lower_rows, upper_rows}
use Rattle.book_picture.proofs.Parts.{put_first, front_first, put_second, front_second}
use Rattle.book_picture.proofs.drawing.put_rows.Goals as goal

pub returns-in-Err-clause-err : goal.returns-in-Err-clause-err
returns-in-Err-clause-err g c =
    front_first (g.W.ByteOut.taken c.args.writer.now) (g.W.ByteOut.taken c.put.new.writer) c.args.output.now (lower_rows c.args.book.now.list c.args.from)
    (upper_rows c.args.book.now.list c.args.from) _ (c.as_slice.ensures.bytes ∙ c.write_lower_rows.ensures) c.in-Err.ensures.err

pub returns-clause-ok : goal.returns-clause-ok
returns-clause-ok g c =
    let a = g.W.ByteOut.taken c.args.writer.now in
    let b = g.W.ByteOut.taken c.put.new.writer in
    let old = c.args.output.now in
    on_ok_weaker c.put-2.result (λ wrote.
    put_second a b old (lower_rows c.args.book.now.list c.args.from) (g.W.ByteOut.taken c.put-2.new.writer) (upper_rows c.args.book.now.list c.args.from) c.put.new.self _ (c.as_slice-2.ensures.bytes ∙ c.write_upper_rows.ensures)
    (put_first a b old (lower_rows c.args.book.now.list c.args.from) _ c.put.new.self (c.as_slice.ensures.bytes ∙ c.write_lower_rows.ensures) c.in-Ok.ensures.ok) c.put-2.new.self wrote)
    c.put-2.ensures.ok

pub returns-clause-err : goal.returns-clause-err
returns-clause-err g c =
    let a = g.W.ByteOut.taken c.args.writer.now in
    let b = g.W.ByteOut.taken c.put.new.writer in
    let old = c.args.output.now in
    on_err_weaker c.put-2.result (λ wrote.
    front_second a b old (lower_rows c.args.book.now.list c.args.from) (g.W.ByteOut.taken c.put-2.new.writer) (upper_rows c.args.book.now.list c.args.from) c.put.new.self _ (c.as_slice-2.ensures.bytes ∙ c.write_upper_rows.ensures)
    (put_first a b old (lower_rows c.args.book.now.list c.args.from) _ c.put.new.self (c.as_slice.ensures.bytes ∙ c.write_lower_rows.ensures) c.in-Ok.ensures.ok) wrote)
    c.put-2.ensures.err
