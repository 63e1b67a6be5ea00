use Rattle.std.proofs.Common.{ℕ, List, ◌++◌, ◌∙◌, map, ap, arith, subst}
use Rattle.text_lines.specs.Calls.{next_count}
use Rattle.text_lines.specs.Line.{text_of}
use Rattle.text_lines.specs.Writing.{WritesAllBut, WritesFront}
use Rattle.serve_journal.proofs.PuttingLemmas.{one_put, front_put}
use Rattle.journal_sql.specs.Rows.{gateway_row}
use Rattle.journal_sql.proofs.RowLemmas.{line_text, each_row}
use Rattle.journal_sql.proofs.writing.put_gateways.Goals as goal

pub loop-gateway-preserved : goal.loop-gateway-preserved
loop-gateway-preserved g c =
    let put = c.in-Ok.ensures in
    let P : List ℕ → Type 0 = λ l. WritesAllBut (g.W.ByteOut.taken c.loop-gateway.writer) (g.W.ByteOut.taken c.put_line.new.writer)
    (c.loop-gateway.output ++ l) c.put_line.new.output in
    record {
      written =
          one_put (λ xs. text_of (map gateway_row xs)) (λ x. line_text (gateway_row x)) (each_row gateway_row) _ _ _ _ c.loop-gateway.output c.put_line.new.output
          c.args.gateways.now c.loop-gateway.gateway-index c.gateway-item.result (omega arith) c.gateway-item.is c.loop-gateway.invariant.written
          (subst P c.write_gateway.ensures put.0);
      quiet = put.1 ∙ c.loop-gateway.invariant.quiet;
    }

pub returns-in-Err : goal.returns-in-Err
returns-in-Err g c =
    let put = c.in-Err.ensures in
    let P : List ℕ → Type 0 = λ l. WritesFront (g.W.ByteOut.taken c.loop-gateway.writer) (g.W.ByteOut.taken c.put_line.new.writer)
    (c.loop-gateway.output ++ l) in (
      front_put (λ xs. text_of (map gateway_row xs)) (λ x. line_text (gateway_row x)) (each_row gateway_row) _ _ _ _ c.loop-gateway.output
          c.args.gateways.now c.loop-gateway.gateway-index c.gateway-item.result (omega arith) c.gateway-item.is c.loop-gateway.invariant.written
          (subst P c.write_gateway.ensures put.0),
      put.1 ∙ ap next_count c.loop-gateway.invariant.quiet,
    )
