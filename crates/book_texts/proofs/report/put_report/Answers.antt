use Rattle.std.proofs.Common.{ℕ, List, ◌++◌, ◌∙◌, subst}
use Rattle.std.proofs.lemmas.Result.{on_ok_weaker, on_err_weaker}
use Rattle.text_lines.specs.Writing.{WritesAllBut, WritesFront}
use Rattle.book_texts.proofs.report.put_report.Goals as goal

pub returns-clause-ok : goal.returns-clause-ok
returns-clause-ok g c =
    on_ok_weaker c.put.result (λ wrote s stood.
    let Put : List ℕ → Type 0 = λ text. WritesAllBut (g.W.ByteOut.taken c.args.writer.now) (g.W.ByteOut.taken c.put.new.writer)
    (c.args.output.now ++ text) c.put.new.self in
    subst Put (c.as_slice.ensures.bytes ∙ c.write_report.ensures s stood) wrote) c.put.ensures.ok

pub returns-clause-err : goal.returns-clause-err
returns-clause-err g c =
    on_err_weaker c.put.result (λ wrote s stood.
    let Put : List ℕ → Type 0 = λ text. WritesFront (g.W.ByteOut.taken c.args.writer.now) (g.W.ByteOut.taken c.put.new.writer)
    (c.args.output.now ++ text) in
    subst Put (c.as_slice.ensures.bytes ∙ c.write_report.ensures s stood) wrote) c.put.ensures.err
