use Rattle.std.proofs.Common.{◌∙◌}
use Rattle.text_lines.specs.Line.{text_of}
use Rattle.text_lines.specs.Writing.{Appends-after, WritesFront-after}
use Rattle.run_lines.specs.ReplayText.{entry_lines}
use Rattle.run_lines.proofs.PutLemmas.{on_err_anyway}
use Rattle.run_lines.proofs.ReplayLemmas.{refuses-entries_alone}
use Rattle.run_lines.proofs.part_text.write_entries.Goals as goal

pub returns-in_err-put_entries-clause-err : goal.returns-in_err-put_entries-clause-err
returns-in_err-put_entries-clause-err g c =
    on_err_anyway _ (rw (c.new-output.ensures) at c.in_err-put_entries.ensures.err)

pub returns-in_err-flush-clause-err : goal.returns-in_err-flush-clause-err
returns-in_err-flush-clause-err g c =
    on_err_anyway _ (WritesFront-after (g.W.ByteOut.taken c.args.writer.now) (g.W.ByteOut.taken c.put_entries.new.writer)
    (g.W.ByteOut.taken c.flush.new.writer) (text_of (entry_lines c.args.entries.now)) c.put_entries.new.output
    (rw (c.new-output.ensures) at c.in_ok-put_entries.ensures.ok) c.in_err-flush.ensures.err)

pub returns-clause-ok : goal.returns-clause-ok
returns-clause-ok g c =
    Appends-after (g.W.ByteOut.taken c.args.writer.now) (g.W.ByteOut.taken c.put_entries.new.writer)
    (g.W.ByteOut.taken c.flush.new.writer) (text_of (entry_lines c.args.entries.now)) c.put_entries.new.output
    (rw (c.new-output.ensures) at c.in_ok-put_entries.ensures.ok) c.in_ok-flush.ensures.ok

pub returns-clause-told : goal.returns-clause-told
returns-clause-told g c = c.has_refused.ensures ∙ refuses-entries_alone c.args.entries.now
