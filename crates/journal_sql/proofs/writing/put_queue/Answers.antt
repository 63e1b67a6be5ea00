use Rattle.std.proofs.Common.{◌≡◌, ℕ, List, ◌∷◌, ◌+◌, ◌++◌, ◌∙◌, drop, sym, ap, arith, subst}
use Rattle.text_lines.specs.Calls.{next_count}
use Rattle.text_lines.specs.Line.{text_of}
use Rattle.text_lines.specs.Writing.{WritesAllBut, WritesFront}
use Rattle.journal_sql.specs.Rows.{queued_row}
use Rattle.journal_sql.specs.Sql.{next_number, numbered, number_behind}
use Rattle.journal_sql.proofs.RowLemmas.{line_text, each_numbered, next_at, part_put, part_front}
use Rattle.journal_sql.proofs.writing.put_queue.Goals as goal

pub loop-payload-preserved : goal.loop-payload-preserved
loop-payload-preserved g c =
    let put = c.in-Ok.ensures in
    let row = queued_row c.args.addr in
    let queue = c.args.queue.now in
    let i = c.loop-payload.payload-index in
    let same : drop i queue ≡ c.payload-item.result ∷ drop (i + 1) queue =
    next_at queue i c.payload-item.result (omega arith) c.payload-item.is in
    let P : List ℕ → Type 0 = λ l. WritesAllBut (g.W.ByteOut.taken c.loop-payload.writer) (g.W.ByteOut.taken c.put_line.new.writer)
    (c.loop-payload.output ++ l) c.put_line.new.output in
    let Q : ℕ → Type 0 = λ n. WritesAllBut (g.W.ByteOut.taken c.args.writer.now) (g.W.ByteOut.taken c.put_line.new.writer)
    (c.args.output.now ++ text_of (numbered row c.args.number queue))
    (c.put_line.new.output ++ text_of (numbered row n (drop (i + 1) queue))) in
    record {
      written = subst Q (sym c.number_after-next.ensures)
          (part_put (λ n xs. text_of (numbered row n xs)) (λ n x. line_text (row n x)) (λ n _. next_number n) (each_numbered row)
          (g.W.ByteOut.taken c.args.writer.now) (g.W.ByteOut.taken c.loop-payload.writer) (g.W.ByteOut.taken c.put_line.new.writer)
          (c.args.output.now ++ text_of (numbered row c.args.number queue))
          c.loop-payload.output c.put_line.new.output c.loop-payload.next c.payload-item.result (drop (i + 1) queue)
          (drop i queue) same c.loop-payload.invariant.written (subst P c.write_queued.ensures put.0));
      quiet = put.1 ∙ c.loop-payload.invariant.quiet;
      counted = ap (λ n. number_behind n (drop (i + 1) queue)) c.number_after-next.ensures
          ∙ sym (ap (number_behind c.loop-payload.next) same) ∙ c.loop-payload.invariant.counted;
    }

pub returns-in-Err-clause-rows : goal.returns-in-Err-clause-rows
returns-in-Err-clause-rows g c =
    let put = c.in-Err.ensures in
    let row = queued_row c.args.addr in
    let queue = c.args.queue.now in
    let i = c.loop-payload.payload-index in
    let same : drop i queue ≡ c.payload-item.result ∷ drop (i + 1) queue =
    next_at queue i c.payload-item.result (omega arith) c.payload-item.is in
    let P : List ℕ → Type 0 = λ l. WritesFront (g.W.ByteOut.taken c.loop-payload.writer) (g.W.ByteOut.taken c.put_line.new.writer)
    (c.loop-payload.output ++ l) in (
      part_front (λ n xs. text_of (numbered row n xs)) (λ n x. line_text (row n x)) (λ n _. next_number n) (each_numbered row)
          (g.W.ByteOut.taken c.args.writer.now) (g.W.ByteOut.taken c.loop-payload.writer) (g.W.ByteOut.taken c.put_line.new.writer)
          (c.args.output.now ++ text_of (numbered row c.args.number queue))
          c.loop-payload.output c.loop-payload.next c.payload-item.result (drop (i + 1) queue)
          (drop i queue) same c.loop-payload.invariant.written (subst P c.write_queued.ensures put.0),
      put.1 ∙ ap next_count c.loop-payload.invariant.quiet,
    )
