use Rattle.std.proofs.Common.{◌≡◌, ◌++◌, map, drop}
use Rattle.text_lines.specs.Writing.{WritesAllBut}
use Rattle.serve_journal.specs.Renewal.{entries_text, gateway_entry}
use Rattle.serve_journal.proofs.renewal.put_gateways.Given as goal

abbrev pub invariant-loop-gateway : goal.invariant-loop-gateway
invariant-loop-gateway g l = record {
  written : WritesAllBut (g.W.ByteOut.taken l.fn.writer) (g.W.ByteOut.taken l.writer) (l.fn.output ++ entries_text (map gateway_entry l.gateways))
      (l.output ++ entries_text (map gateway_entry (drop l.gateway-index l.gateways)));
  quiet : g.W.ByteOut.failed_calls l.writer ≡ g.W.ByteOut.failed_calls l.fn.writer;
}
