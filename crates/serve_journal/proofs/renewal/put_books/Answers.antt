use Rattle.std.proofs.Common.{◌++◌, ◌∙◌, List, map, ap, arith, subst}
use Rattle.std.specs.List.{flat_map}
use Rattle.text_lines.specs.Calls.{next_count}
use Rattle.text_lines.specs.Writing.{WritesAllBut, WritesFront}
use Rattle.resv_list.specs.declared.reservation.Reservation.{Reservation}
use Rattle.serve_journal.specs.Journal.{Mast}
use Rattle.serve_journal.specs.Renewal.{entries_text, sent_entry, sent_entries}
use Rattle.serve_journal.proofs.PuttingLemmas.{each_part, one_put, front_put}
use Rattle.serve_journal.proofs.renewal.put_books.Goals as goal

pub loop-gateway-preserved : goal.loop-gateway-preserved
loop-gateway-preserved g c =
    let put = c.in-Ok.ensures in
    let P : Mast → Type 0 = λ x. WritesAllBut (g.W.ByteOut.taken c.loop-gateway.writer) (g.W.ByteOut.taken c.put_book.new.writer)
    (c.loop-gateway.output ++ entries_text (sent_entries x)) c.put_book.new.output in
    let Q : List Reservation → Type 0 = λ l. WritesAllBut (g.W.ByteOut.taken c.loop-gateway.writer) (g.W.ByteOut.taken c.put_book.new.writer)
    (c.loop-gateway.output ++ entries_text (map (sent_entry c.gateway.inside.id) l)) c.put_book.new.output in
    record {
      written =
          one_put (λ xs. entries_text (flat_map sent_entries xs)) (λ x. entries_text (sent_entries x)) (each_part sent_entries) _ _ _ _ c.loop-gateway.output c.put_book.new.output
          c.args.gateways.now c.loop-gateway.gateway-index c.gateway-item.result (omega arith) c.gateway-item.is c.loop-gateway.invariant.written (subst P c.gateway.view_is (subst Q c.roster.ensures put.0));
      quiet = put.1 ∙ c.loop-gateway.invariant.quiet;
    }

pub returns-in-Err : goal.returns-in-Err
returns-in-Err g c =
    let put = c.in-Err.ensures in
    let P : Mast → Type 0 = λ x. WritesFront (g.W.ByteOut.taken c.loop-gateway.writer) (g.W.ByteOut.taken c.put_book.new.writer)
    (c.loop-gateway.output ++ entries_text (sent_entries x)) in
    let Q : List Reservation → Type 0 = λ l. WritesFront (g.W.ByteOut.taken c.loop-gateway.writer) (g.W.ByteOut.taken c.put_book.new.writer)
    (c.loop-gateway.output ++ entries_text (map (sent_entry c.gateway.inside.id) l)) in (
      front_put (λ xs. entries_text (flat_map sent_entries xs)) (λ x. entries_text (sent_entries x)) (each_part sent_entries) _ _ _ _ c.loop-gateway.output c.args.gateways.now c.loop-gateway.gateway-index c.gateway-item.result
          (omega arith) c.gateway-item.is c.loop-gateway.invariant.written (subst P c.gateway.view_is (subst Q c.roster.ensures put.0)),
      put.1 ∙ ap next_count c.loop-gateway.invariant.quiet,
    )
