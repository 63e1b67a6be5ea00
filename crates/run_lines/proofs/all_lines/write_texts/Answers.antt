use Rattle.std.proofs.Common.{[], ◌∷◌, sym, rules, subst, append-nil}
use Rattle.std.specs.Io.KnownBytes.{Appends}
use Rattle.text_lines.specs.Writing.{WritesFront, WritesAllBut-refl, WritesAllBut-from_all}
use Rattle.run_lines.specs.ReplayText.{bytes_of}
use Rattle.run_lines.proofs.PutLemmas.{put-more, put-stopped, on_err_anyway}
use Rattle.run_lines.proofs.ReplayLemmas.{bytes-append}
use Rattle.run_lines.proofs.all_lines.write_texts.Goals as goal

pub loop-text-init : goal.loop-text-init
loop-text-init g c = record {
  written = WritesAllBut-refl (g.W.ByteOut.taken c.args.writer.now) [];
  calls = search rules;
}

pub returns-in_err-write_all-clause-err : goal.returns-in_err-write_all-clause-err
returns-in_err-write_all-clause-err g c =
    let l = c.loop-text in
    let before = g.W.ByteOut.taken l.writer in
    let now = g.W.ByteOut.taken c.write_all.new.writer in
    on_err_anyway _ (put-stopped bytes_of bytes-append (g.W.ByteOut.taken c.args.writer.now) before now [] [] c.args.texts.now
    l.text-index c.text-item.result c.loop-text-test.true l.invariant.written
    (subst (λ text. WritesFront before now (bytes_of (text ∷ []))) c.text-item.is
    (subst (WritesFront before now) (sym (append-nil _)) (rw c.as_slice.ensures.value at c.in_err-write_all.ensures.err))))

pub loop-text-preserved : goal.loop-text-preserved
loop-text-preserved g c =
    let l = c.loop-text in
    let before = g.W.ByteOut.taken l.writer in
    let now = g.W.ByteOut.taken c.write_all.new.writer in
    record {
      written = put-more bytes_of bytes-append (g.W.ByteOut.taken c.args.writer.now) before now [] [] [] c.args.texts.now
          l.text-index c.text-item.result c.loop-text-test.true l.invariant.written
          (WritesAllBut-from_all before now _ (subst (λ text. Appends before now (bytes_of (text ∷ []))) c.text-item.is
          (subst (Appends before now) (sym (append-nil _)) (rw c.as_slice.ensures.value at c.in_ok-write_all.ensures.ok))));
      calls = search rules;
    }
