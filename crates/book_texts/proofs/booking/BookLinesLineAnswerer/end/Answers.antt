use Rattle.std.proofs.Common.{ℕ, List, ◌++◌, ◌∙◌, ap, sym, subst}
use Rattle.std.proofs.lemmas.Result.{on_ok_weaker}
use Rattle.text_lines.specs.Writing.{WritesAllBut}
use Rattle.gateway_book.specs.Saved.{text_in}
use Rattle.book_texts.proofs.ReportLemmas.{saved_stands}
use Rattle.book_texts.proofs.booking.BookLinesLineAnswerer.end.Goals as goal

pub returns-then-self-clause-ok : goal.returns-then-self-clause-ok
returns-then-self-clause-ok g c =
    on_ok_weaker c.put_saved.result (λ wrote at stood.
    let Put : List ℕ → Type 0 = λ text. WritesAllBut (g.W.ByteOut.taken c.args.writer.now)
    (g.W.ByteOut.taken c.put_saved.new.writer) (c.args.output.now ++ text) c.put_saved.new.output in
    rw (sym stood.saves ∙ c.if-self.true) (subst Put (ap (text_in 2) (saved_stands c.args.self.book at stood.stands)) wrote))
    c.put_saved.ensures.ok
