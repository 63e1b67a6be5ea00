use Rattle.std.proofs.Common.{ℕ, List, ◌∙◌, map}
use Rattle.text_lines.specs.Line.{text_of}
use Rattle.text_lines.specs.Writing.{Appends-after, WritesFront-after}
use Rattle.server_core.specs.Entries.{gateway_of}
use Rattle.run_lines.specs.ReplayText.{replay_lines}
use Rattle.run_lines.proofs.PutLemmas.{on_err_anyway}
use Rattle.run_lines.proofs.ReplayLemmas.{refuses-entries}
use Rattle.run_lines.proofs.replay_text.write_lines.Goals as goal

pub returns-in_err-put_lines-clause-err : goal.returns-in_err-put_lines-clause-err
returns-in_err-put_lines-clause-err g c =
    on_err_anyway _ (rw (c.new-output.ensures) at c.in_err-put_lines.ensures.err)

pub returns-in_err-flush-clause-err : goal.returns-in_err-flush-clause-err
returns-in_err-flush-clause-err g c =
    let text : List ℕ = text_of (replay_lines c.args.entries.now (map gateway_of c.args.books.now)) in
    on_err_anyway _ (WritesFront-after (g.W.ByteOut.taken c.args.writer.now) (g.W.ByteOut.taken c.put_lines.new.writer)
    (g.W.ByteOut.taken c.flush.new.writer) text c.put_lines.new.output
    (rw (c.new-output.ensures) at c.in_ok-put_lines.ensures.ok) c.in_err-flush.ensures.err)

pub returns-clause-ok : goal.returns-clause-ok
returns-clause-ok g c =
    let text : List ℕ = text_of (replay_lines c.args.entries.now (map gateway_of c.args.books.now)) in
    Appends-after (g.W.ByteOut.taken c.args.writer.now) (g.W.ByteOut.taken c.put_lines.new.writer)
    (g.W.ByteOut.taken c.flush.new.writer) text c.put_lines.new.output
    (rw (c.new-output.ensures) at c.in_ok-put_lines.ensures.ok) c.in_ok-flush.ensures.ok

pub returns-clause-told : goal.returns-clause-told
returns-clause-told g c =
    c.has_refused.ensures ∙ refuses-entries c.args.entries.now (map gateway_of c.args.books.now)
