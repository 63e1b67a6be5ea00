use Rattle.std.proofs.Common.{◌≡◌, ◌++◌, drop}
use Rattle.std.specs.List.{flat_map}
use Rattle.text_lines.specs.Writing.{WritesAllBut}
use Rattle.serve_journal.specs.Renewal.{entries_text, sent_entries}
use Rattle.serve_journal.proofs.renewal.put_books.Given as goal

abbrev pub invariant-loop-gateway : goal.invariant-loop-gateway
invariant-loop-gateway g l = record {
  written : WritesAllBut (g.W.ByteOut.taken l.fn.writer) (g.W.ByteOut.taken l.writer) (l.fn.output ++ entries_text (flat_map sent_entries l.gateways))
      (l.output ++ entries_text (flat_map sent_entries (drop l.gateway-index l.gateways)));
  quiet : g.W.ByteOut.failed_calls l.writer ≡ g.W.ByteOut.failed_calls l.fn.writer;
}
