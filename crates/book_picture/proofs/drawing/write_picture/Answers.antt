use Rattle.std.proofs.Common.{◌≡◌, ℕ, List, [], ◌∷◌, ◌++◌, Option, ap, ◌∙◌, refl, subst}
use Rattle.std.specs.Io.KnownBytes.{Appends}
use Rattle.std.proofs.lemmas.Result.{on_ok_weaker, on_err_weaker}
use Rattle.text_lines.specs.Line.{text_of}
use Rattle.text_lines.specs.Writing.{WritesFront}
use Rattle.gateway_book.specs.Book.{Book}
use Rattle.book_picture.specs.Fixed.{end_line}
use Rattle.book_picture.specs.Lines.{head_lines, mark_lines, picture_lines, picture_text}
use Rattle.book_picture.specs.Hour.{opening_of}
use Rattle.book_picture.proofs.Parts.{front_first, all_second, front_second}
use Rattle.book_picture.proofs.drawing.write_picture.Goals as goal

-- the whole picture behind nothing
whole : (book : Book) (from : Option ℕ) (opening : ℕ) (old : List ℕ) → opening ≡ opening_of from book.list → old ≡ []
    → (P : List ℕ → Type 0)
    → P (old ++ text_of ((head_lines book opening ++ mark_lines book.list opening) ++ (end_line ∷ []))) → P (picture_text book from)
whole book from opening old e f P p =
    let text : old ++ text_of (picture_lines book opening) ≡ picture_text book from =
    ap (λ l. l ++ text_of (picture_lines book opening)) f ∙ ap (λ (t : ℕ). text_of (picture_lines book t)) e in
    subst P text p

pub returns-in-Err-clause-err : goal.returns-in-Err-clause-err
returns-in-Err-clause-err g c =
    let a = g.W.ByteOut.taken c.args.writer.now in
    let b = g.W.ByteOut.taken c.put_all_but_end.new.writer in
    let book = c.args.book.now in
    let opening = c.opening_of-opening.result in
    whole book c.args.from opening c.new-output.result c.opening_of-opening.ensures c.new-output.ensures (λ l. WritesFront a b l)
    (front_first a b c.new-output.result (head_lines book opening ++ mark_lines book.list opening) (end_line ∷ []) _ refl
    c.in-Err.ensures.err)

pub returns-clause-ok : goal.returns-clause-ok
returns-clause-ok g c =
    let a = g.W.ByteOut.taken c.args.writer.now in
    let b = g.W.ByteOut.taken c.put_all_but_end.new.writer in
    let z = g.W.ByteOut.taken c.put_through.new.writer in
    let book = c.args.book.now in
    let opening = c.opening_of-opening.result in
    on_ok_weaker c.put_through.result (λ wrote.
    whole book c.args.from opening c.new-output.result c.opening_of-opening.ensures c.new-output.ensures (λ l. Appends a z l)
    (all_second a b c.new-output.result (head_lines book opening ++ mark_lines book.list opening) z (end_line ∷ [])
    c.put_all_but_end.new.output _ refl c.in-Ok.ensures.ok wrote)) c.put_through.ensures.ok

pub returns-clause-err : goal.returns-clause-err
returns-clause-err g c =
    let a = g.W.ByteOut.taken c.args.writer.now in
    let b = g.W.ByteOut.taken c.put_all_but_end.new.writer in
    let z = g.W.ByteOut.taken c.put_through.new.writer in
    let book = c.args.book.now in
    let opening = c.opening_of-opening.result in
    on_err_weaker c.put_through.result (λ wrote.
    whole book c.args.from opening c.new-output.result c.opening_of-opening.ensures c.new-output.ensures (λ l. WritesFront a z l)
    (front_second a b c.new-output.result (head_lines book opening ++ mark_lines book.list opening) z (end_line ∷ [])
    c.put_all_but_end.new.output _ refl c.in-Ok.ensures.ok wrote)) c.put_through.ensures.err
