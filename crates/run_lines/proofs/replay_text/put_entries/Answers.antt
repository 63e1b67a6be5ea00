use Rattle.std.proofs.Common.{[], ◌∷◌, ◌++◌, rules, subst}
use Rattle.text_lines.specs.Writing.{WritesAllBut, WritesFront}
use Rattle.server_core.specs.declared.entry.Entry.{Entry}
use Rattle.run_lines.proofs.PutLemmas.{put-more, put-stopped, on_err_anyway}
use Rattle.run_lines.proofs.ReplayLemmas.{entries_text, entries-append}
use Rattle.run_lines.proofs.replay_text.put_entries.Goals as goal

pub returns-in_err-put_line : goal.returns-in_err-put_line
returns-in_err-put_line g c =
    let l = c.loop-entry in
    let F : Entry g.row.A.Denot → Type 0 = λ e. WritesFront (g.W.ByteOut.taken l.writer) (g.W.ByteOut.taken c.put_line.new.writer)
    (l.output ++ entries_text (e ∷ [])) in
    record {
      ok = search rules;
      err = on_err_anyway _ (put-stopped entries_text entries-append (g.W.ByteOut.taken c.args.writer.now)
          (g.W.ByteOut.taken l.writer) (g.W.ByteOut.taken c.put_line.new.writer) c.args.output.now l.output
          c.args.entries.now l.entry-index c.entry-item.result c.loop-entry-test.true l.invariant.written
          (subst F c.entry-item.is c.in_err-put_line.ensures.err));
      failed = search rules;
    }

pub loop-entry-preserved : goal.loop-entry-preserved
loop-entry-preserved g c =
    let l = c.loop-entry in
    let F : Entry g.row.A.Denot → Type 0 = λ e. WritesAllBut (g.W.ByteOut.taken l.writer)
    (g.W.ByteOut.taken c.put_line.new.writer) (l.output ++ entries_text (e ∷ [])) c.put_line.new.output in
    record {
      written = put-more entries_text entries-append (g.W.ByteOut.taken c.args.writer.now) (g.W.ByteOut.taken l.writer)
          (g.W.ByteOut.taken c.put_line.new.writer) c.args.output.now l.output c.put_line.new.output c.args.entries.now
          l.entry-index c.entry-item.result
          c.loop-entry-test.true l.invariant.written (subst F c.entry-item.is c.in_ok-put_line.ensures.ok);
      calls = search rules;
    }
