use Rattle.std.proofs.Common.{List, ap, refl}
use Rattle.std.proofs.lemmas.Result.{on_ok_weaker, on_err_weaker}
use Rattle.text_lines.specs.Line.{text_of}
use Rattle.resv_list.specs.declared.reservation.Reservation.{Reservation}
use Rattle.book_picture.specs.Lines.{head_lines, mark_lines}
use Rattle.book_picture.proofs.Parts.{put_first, front_first, put_second, front_second}
use Rattle.book_picture.proofs.drawing.put_all_but_end.Goals as goal

pub returns-in-Err-clause-err : goal.returns-in-Err-clause-err
returns-in-Err-clause-err g c =
    front_first (g.W.ByteOut.taken c.args.writer.now) (g.W.ByteOut.taken c.put_head.new.writer) c.args.output.now (head_lines c.args.book.now c.args.from)
    (mark_lines c.args.book.now.list c.args.from) _ (refl) c.in-Err.ensures.err

pub returns-clause-ok : goal.returns-clause-ok
returns-clause-ok g c =
    let a = g.W.ByteOut.taken c.args.writer.now in
    let b = g.W.ByteOut.taken c.put_head.new.writer in
    let old = c.args.output.now in
    on_ok_weaker c.put_marks.result (λ wrote.
    put_second a b old (head_lines c.args.book.now c.args.from) (g.W.ByteOut.taken c.put_marks.new.writer) (mark_lines c.args.book.now.list c.args.from) c.put_head.new.output _ (ap (λ (l : List Reservation). text_of (mark_lines l c.args.from)) c.roster.ensures)
    (put_first a b old (head_lines c.args.book.now c.args.from) _ c.put_head.new.output (refl) c.in-Ok.ensures.ok) c.put_marks.new.output wrote)
    c.put_marks.ensures.ok

pub returns-clause-err : goal.returns-clause-err
returns-clause-err g c =
    let a = g.W.ByteOut.taken c.args.writer.now in
    let b = g.W.ByteOut.taken c.put_head.new.writer in
    let old = c.args.output.now in
    on_err_weaker c.put_marks.result (λ wrote.
    front_second a b old (head_lines c.args.book.now c.args.from) (g.W.ByteOut.taken c.put_marks.new.writer) (mark_lines c.args.book.now.list c.args.from) c.put_head.new.output _ (ap (λ (l : List Reservation). text_of (mark_lines l c.args.from)) c.roster.ensures)
    (put_first a b old (head_lines c.args.book.now c.args.from) _ c.put_head.new.output (refl) c.in-Ok.ensures.ok) wrote)
    c.put_marks.ensures.err
