use Rattle.std.proofs.Common.{◌≡◌, ℕ, List, ◌∷◌, ◌+◌, ◌++◌, ◌∙◌, drop, sym, ap, arith, subst}
use Rattle.text_lines.specs.Calls.{next_count}
use Rattle.text_lines.specs.Line.{text_of}
use Rattle.text_lines.specs.Writing.{WritesAllBut, WritesFront}
use Rattle.serve_journal.specs.Journal.{Node}
use Rattle.serve_journal.specs.Payload.{Waiting}
use Rattle.journal_sql.specs.Rows.{queued_row}
use Rattle.journal_sql.specs.Sql.{numbered, number_behind, queued_rows}
use Rattle.journal_sql.proofs.RowLemmas.{each_queue, next_at, part_put, part_front}
use Rattle.journal_sql.proofs.writing.put_queues.Goals as goal

pub loop-device-preserved : goal.loop-device-preserved
loop-device-preserved g c =
    let put = c.in-Ok.ensures in
    let n = c.loop-device.number in
    let devices = c.args.devices.now in
    let i = c.loop-device.device-index in
    let same : drop i devices ≡ c.device-item.result ∷ drop (i + 1) devices =
    next_at devices i c.device-item.result (omega arith) c.device-item.is in
    let P : Node → Type 0 = λ d. WritesAllBut (g.W.ByteOut.taken c.loop-device.writer) (g.W.ByteOut.taken c.put_queue.new.writer)
    (c.loop-device.output ++ text_of (numbered (queued_row d.addr) n d.queue)) c.put_queue.new.output in
    let Q : List Waiting → Type 0 = λ l. WritesAllBut (g.W.ByteOut.taken c.loop-device.writer) (g.W.ByteOut.taken c.put_queue.new.writer)
    (c.loop-device.output ++ text_of (numbered (queued_row c.device.inside.addr) n l)) c.put_queue.new.output in
    let N : List Waiting → Type 0 = λ l. c.in-Ok.next ≡ number_behind n l in
    let M : Node → Type 0 = λ d. c.in-Ok.next ≡ number_behind n d.queue in
    let behind : c.in-Ok.next ≡ number_behind n c.device-item.result.queue =
    subst M c.device.view_is (subst N c.deref.ensures.value put.next) in
    let R : ℕ → Type 0 = λ k. WritesAllBut (g.W.ByteOut.taken c.args.writer.now) (g.W.ByteOut.taken c.put_queue.new.writer)
    (c.args.output.now ++ text_of (queued_rows 1 devices))
    (c.put_queue.new.output ++ text_of (queued_rows k (drop (i + 1) devices))) in
    record {
      written = subst R (sym behind)
          (part_put (λ k ds. text_of (queued_rows k ds)) (λ k d. text_of (numbered (queued_row d.addr) k d.queue))
          (λ k d. number_behind k d.queue) each_queue
          (g.W.ByteOut.taken c.args.writer.now) (g.W.ByteOut.taken c.loop-device.writer) (g.W.ByteOut.taken c.put_queue.new.writer)
          (c.args.output.now ++ text_of (queued_rows 1 devices)) c.loop-device.output c.put_queue.new.output n
          c.device-item.result (drop (i + 1) devices) (drop i devices) same c.loop-device.invariant.written
          (subst P c.device.view_is (subst Q c.deref.ensures.value put.rows.0)));
      quiet = put.rows.1 ∙ c.loop-device.invariant.quiet;
    }

pub returns-in-Err : goal.returns-in-Err
returns-in-Err g c =
    let put = c.in-Err.ensures in
    let n = c.loop-device.number in
    let devices = c.args.devices.now in
    let i = c.loop-device.device-index in
    let same : drop i devices ≡ c.device-item.result ∷ drop (i + 1) devices =
    next_at devices i c.device-item.result (omega arith) c.device-item.is in
    let P : Node → Type 0 = λ d. WritesFront (g.W.ByteOut.taken c.loop-device.writer) (g.W.ByteOut.taken c.put_queue.new.writer)
    (c.loop-device.output ++ text_of (numbered (queued_row d.addr) n d.queue)) in
    let Q : List Waiting → Type 0 = λ l. WritesFront (g.W.ByteOut.taken c.loop-device.writer) (g.W.ByteOut.taken c.put_queue.new.writer)
    (c.loop-device.output ++ text_of (numbered (queued_row c.device.inside.addr) n l)) in (
      part_front (λ k ds. text_of (queued_rows k ds)) (λ k d. text_of (numbered (queued_row d.addr) k d.queue))
          (λ k d. number_behind k d.queue) each_queue
          (g.W.ByteOut.taken c.args.writer.now) (g.W.ByteOut.taken c.loop-device.writer) (g.W.ByteOut.taken c.put_queue.new.writer)
          (c.args.output.now ++ text_of (queued_rows 1 devices)) c.loop-device.output n c.device-item.result
          (drop (i + 1) devices) (drop i devices) same c.loop-device.invariant.written
          (subst P c.device.view_is (subst Q c.deref.ensures.value put.rows.0)),
      put.rows.1 ∙ ap next_count c.loop-device.invariant.quiet,
    )
