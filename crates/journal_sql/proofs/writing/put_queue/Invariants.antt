use Rattle.std.proofs.Common.{◌≡◌, ◌++◌, drop}
use Rattle.text_lines.specs.Line.{text_of}
use Rattle.text_lines.specs.Writing.{WritesAllBut}
use Rattle.journal_sql.specs.Rows.{queued_row}
use Rattle.journal_sql.specs.Sql.{numbered, number_behind}
use Rattle.journal_sql.proofs.writing.put_queue.Given as goal

abbrev pub invariant-loop-payload : goal.invariant-loop-payload
invariant-loop-payload g l = record {
  written : WritesAllBut (g.W.ByteOut.taken l.fn.writer) (g.W.ByteOut.taken l.writer)
      (l.fn.output ++ text_of (numbered (queued_row l.addr) l.number l.queue))
      (l.output ++ text_of (numbered (queued_row l.addr) l.next (drop l.payload-index l.queue)));
  quiet : g.W.ByteOut.failed_calls l.writer ≡ g.W.ByteOut.failed_calls l.fn.writer;
  counted : number_behind l.next (drop l.payload-index l.queue) ≡ number_behind l.number l.queue;
}
