use Rattle.std.proofs.Common.{◌≡◌, ◌∙◌, ap, subst, List, ℕ}
use Rattle.text_lines.specs.Writing.{WritesAllBut, WritesFront}
use Rattle.serve_journal.specs.Journal.{Journal}
use Rattle.journal_sql.specs.Parts.{parts_behind}
use Rattle.journal_sql.specs.Sql.{sql_of}
use Rattle.serve_journal.proofs.PuttingLemmas.{IsFlushed, flushed}
use Rattle.journal_sql.proofs.RowLemmas.{state_whole}
use Rattle.journal_sql.proofs.writing.write_sql.Goals as goal

pub returns-in-Ok : goal.returns-in-Ok
returns-in-Ok g c =
    let gateways : c.deref.result.now ≡ c.args.state.now.gateways =
    c.deref.ensures.value ∙ ap (λ (j : Journal). j.gateways) c.state.view_is in
    let devices : c.deref-2.result.now ≡ c.args.state.now.devices =
    c.deref-2.ensures.value ∙ ap (λ (j : Journal). j.devices) c.state.view_is in
    let whole : parts_behind c.new-output.result c.deref.result.now c.deref-2.result.now ≡ sql_of c.args.state.now =
    state_whole c.new-output.result c.deref.result.now c.deref-2.result.now c.args.state.now c.new-output.ensures gateways devices in
    let put = c.in-Ok.ensures in
    let P : List ℕ → Type 0 = λ l. WritesAllBut (g.W.ByteOut.taken c.args.writer.now) (g.W.ByteOut.taken c.put_state.new.writer) l
    c.put_state.new.output in
    let f : IsFlushed (g.W.ByteOut.taken c.args.writer.now) (g.W.ByteOut.taken c.flush.new.writer)
    (g.W.ByteOut.failed_calls c.args.writer.now) (g.W.ByteOut.failed_calls c.flush.new.writer) (sql_of c.args.state.now)
    c.flush.result =
    flushed (g.W.ByteOut.taken c.args.writer.now) (g.W.ByteOut.taken c.put_state.new.writer)
    (g.W.ByteOut.taken c.flush.new.writer) (g.W.ByteOut.failed_calls c.args.writer.now)
    (g.W.ByteOut.failed_calls c.put_state.new.writer) (g.W.ByteOut.failed_calls c.flush.new.writer)
    (sql_of c.args.state.now) c.put_state.new.output c.flush.result (subst P whole put.0, put.1) c.flush.ensures.ok
    c.flush.ensures.err c.flush.ensures.failed in
    record { ok = f.ok; err = f.err; failed = f.failed }

pub returns-in-Err : goal.returns-in-Err
returns-in-Err g c =
    let gateways : c.deref.result.now ≡ c.args.state.now.gateways =
    c.deref.ensures.value ∙ ap (λ (j : Journal). j.gateways) c.state.view_is in
    let devices : c.deref-2.result.now ≡ c.args.state.now.devices =
    c.deref-2.ensures.value ∙ ap (λ (j : Journal). j.devices) c.state.view_is in
    let whole : parts_behind c.new-output.result c.deref.result.now c.deref-2.result.now ≡ sql_of c.args.state.now =
    state_whole c.new-output.result c.deref.result.now c.deref-2.result.now c.args.state.now c.new-output.ensures gateways devices in
    let put = c.in-Err.ensures in
    let P : List ℕ → Type 0 = λ l. WritesFront (g.W.ByteOut.taken c.args.writer.now) (g.W.ByteOut.taken c.put_state.new.writer) l in
    record { ok = tt; err = subst P whole put.0; failed = put.1 }
