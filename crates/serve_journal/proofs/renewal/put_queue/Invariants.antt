use Rattle.std.proofs.Common.{◌≡◌, ◌++◌, map, drop}
use Rattle.text_lines.specs.Writing.{WritesAllBut}
use Rattle.serve_journal.specs.declared.entry.Entry.TheVariants.{Queue}
use Rattle.serve_journal.specs.Renewal.{entries_text}
use Rattle.serve_journal.proofs.renewal.put_queue.Given as goal

abbrev pub invariant-loop-payload : goal.invariant-loop-payload
invariant-loop-payload g l = record {
  written : WritesAllBut (g.W.ByteOut.taken l.fn.writer) (g.W.ByteOut.taken l.writer) (l.fn.output ++ entries_text (map (Queue l.addr) l.queue))
      (l.output ++ entries_text (map (Queue l.addr) (drop l.payload-index l.queue)));
  quiet : g.W.ByteOut.failed_calls l.writer ≡ g.W.ByteOut.failed_calls l.fn.writer;
}
