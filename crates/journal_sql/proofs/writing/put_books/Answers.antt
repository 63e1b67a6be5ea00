use Rattle.std.proofs.Common.{◌≡◌, ℕ, List, ◌∷◌, ◌+◌, ◌++◌, ◌∙◌, drop, sym, ap, arith, subst}
use Rattle.text_lines.specs.Calls.{next_count}
use Rattle.text_lines.specs.Line.{text_of}
use Rattle.text_lines.specs.Writing.{WritesAllBut, WritesFront}
use Rattle.serve_journal.specs.Journal.{Mast}
use Rattle.resv_list.specs.declared.reservation.Reservation.{Reservation}
use Rattle.journal_sql.specs.Rows.{sent_row}
use Rattle.journal_sql.specs.Sql.{numbered, number_behind, sent_rows}
use Rattle.journal_sql.proofs.RowLemmas.{each_book, next_at, part_put, part_front}
use Rattle.journal_sql.proofs.writing.put_books.Goals as goal

pub loop-gateway-preserved : goal.loop-gateway-preserved
loop-gateway-preserved g c =
    let put = c.in-Ok.ensures in
    let n = c.loop-gateway.number in
    let gateways = c.args.gateways.now in
    let i = c.loop-gateway.gateway-index in
    let same : drop i gateways ≡ c.gateway-item.result ∷ drop (i + 1) gateways =
    next_at gateways i c.gateway-item.result (omega arith) c.gateway-item.is in
    let P : Mast → Type 0 = λ m. WritesAllBut (g.W.ByteOut.taken c.loop-gateway.writer) (g.W.ByteOut.taken c.put_book.new.writer)
    (c.loop-gateway.output ++ text_of (numbered (sent_row m.id) n m.book.list)) c.put_book.new.output in
    let Q : List Reservation → Type 0 = λ l. WritesAllBut (g.W.ByteOut.taken c.loop-gateway.writer) (g.W.ByteOut.taken c.put_book.new.writer)
    (c.loop-gateway.output ++ text_of (numbered (sent_row c.gateway.inside.id) n l)) c.put_book.new.output in
    let N : List Reservation → Type 0 = λ l. c.in-Ok.next ≡ number_behind n l in
    let M : Mast → Type 0 = λ m. c.in-Ok.next ≡ number_behind n m.book.list in
    let behind : c.in-Ok.next ≡ number_behind n c.gateway-item.result.book.list =
    subst M c.gateway.view_is (subst N c.roster.ensures put.next) in
    let R : ℕ → Type 0 = λ k. WritesAllBut (g.W.ByteOut.taken c.args.writer.now) (g.W.ByteOut.taken c.put_book.new.writer)
    (c.args.output.now ++ text_of (sent_rows 1 gateways))
    (c.put_book.new.output ++ text_of (sent_rows k (drop (i + 1) gateways))) in
    record {
      written = subst R (sym behind)
          (part_put (λ k ms. text_of (sent_rows k ms)) (λ k m. text_of (numbered (sent_row m.id) k m.book.list))
          (λ k m. number_behind k m.book.list) each_book
          (g.W.ByteOut.taken c.args.writer.now) (g.W.ByteOut.taken c.loop-gateway.writer) (g.W.ByteOut.taken c.put_book.new.writer)
          (c.args.output.now ++ text_of (sent_rows 1 gateways)) c.loop-gateway.output c.put_book.new.output n
          c.gateway-item.result (drop (i + 1) gateways) (drop i gateways) same c.loop-gateway.invariant.written
          (subst P c.gateway.view_is (subst Q c.roster.ensures put.rows.0)));
      quiet = put.rows.1 ∙ c.loop-gateway.invariant.quiet;
    }

pub returns-in-Err : goal.returns-in-Err
returns-in-Err g c =
    let put = c.in-Err.ensures in
    let n = c.loop-gateway.number in
    let gateways = c.args.gateways.now in
    let i = c.loop-gateway.gateway-index in
    let same : drop i gateways ≡ c.gateway-item.result ∷ drop (i + 1) gateways =
    next_at gateways i c.gateway-item.result (omega arith) c.gateway-item.is in
    let P : Mast → Type 0 = λ m. WritesFront (g.W.ByteOut.taken c.loop-gateway.writer) (g.W.ByteOut.taken c.put_book.new.writer)
    (c.loop-gateway.output ++ text_of (numbered (sent_row m.id) n m.book.list)) in
    let Q : List Reservation → Type 0 = λ l. WritesFront (g.W.ByteOut.taken c.loop-gateway.writer) (g.W.ByteOut.taken c.put_book.new.writer)
    (c.loop-gateway.output ++ text_of (numbered (sent_row c.gateway.inside.id) n l)) in (
      part_front (λ k ms. text_of (sent_rows k ms)) (λ k m. text_of (numbered (sent_row m.id) k m.book.list))
          (λ k m. number_behind k m.book.list) each_book
          (g.W.ByteOut.taken c.args.writer.now) (g.W.ByteOut.taken c.loop-gateway.writer) (g.W.ByteOut.taken c.put_book.new.writer)
          (c.args.output.now ++ text_of (sent_rows 1 gateways)) c.loop-gateway.output n c.gateway-item.result
          (drop (i + 1) gateways) (drop i gateways) same c.loop-gateway.invariant.written
          (subst P c.gateway.view_is (subst Q c.roster.ensures put.rows.0)),
      put.rows.1 ∙ ap next_count c.loop-gateway.invariant.quiet,
    )
