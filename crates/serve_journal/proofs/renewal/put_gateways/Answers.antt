use Rattle.std.proofs.Common.{◌++◌, ◌∙◌, map, ap, arith, subst}
use Rattle.text_lines.specs.Calls.{next_count}
use Rattle.text_lines.specs.Writing.{WritesAllBut, WritesFront}
use Rattle.serve_journal.specs.declared.entry.Entry.{Entry}
use Rattle.serve_journal.specs.Renewal.{entries_text, gateway_entry}
use Rattle.serve_journal.proofs.PuttingLemmas.{line_text, each_line, one_put, front_put}
use Rattle.serve_journal.proofs.renewal.put_gateways.Goals as goal

pub loop-gateway-preserved : goal.loop-gateway-preserved
loop-gateway-preserved g c =
    let put = c.in-Ok.ensures in
    let P : Entry → Type 0 = λ e. WritesAllBut (g.W.ByteOut.taken c.loop-gateway.writer) (g.W.ByteOut.taken c.put_entry.new.writer)
    (c.loop-gateway.output ++ line_text e) c.put_entry.new.output in
    record {
      written =
          one_put (λ xs. entries_text (map gateway_entry xs)) (λ x. line_text (gateway_entry x)) (each_line gateway_entry) _ _ _ _ c.loop-gateway.output c.put_entry.new.output
          c.args.gateways.now c.loop-gateway.gateway-index c.gateway-item.result (omega arith) c.gateway-item.is c.loop-gateway.invariant.written (subst P c.entry.ensures put.0);
      quiet = put.1 ∙ c.loop-gateway.invariant.quiet;
    }

pub returns-in-Err : goal.returns-in-Err
returns-in-Err g c =
    let put = c.in-Err.ensures in
    let P : Entry → Type 0 = λ e. WritesFront (g.W.ByteOut.taken c.loop-gateway.writer) (g.W.ByteOut.taken c.put_entry.new.writer)
    (c.loop-gateway.output ++ line_text e) in (
      front_put (λ xs. entries_text (map gateway_entry xs)) (λ x. line_text (gateway_entry x)) (each_line gateway_entry) _ _ _ _ c.loop-gateway.output c.args.gateways.now c.loop-gateway.gateway-index c.gateway-item.result
          (omega arith) c.gateway-item.is c.loop-gateway.invariant.written (subst P c.entry.ensures put.0),
      put.1 ∙ ap next_count c.loop-gateway.invariant.quiet,
    )
