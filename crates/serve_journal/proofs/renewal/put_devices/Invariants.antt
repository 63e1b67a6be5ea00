use Rattle.std.proofs.Common.{◌≡◌, ◌++◌, map, drop}
use Rattle.text_lines.specs.Writing.{WritesAllBut}
use Rattle.serve_journal.specs.Renewal.{entries_text, device_entry}
use Rattle.serve_journal.proofs.renewal.put_devices.Given as goal

abbrev pub invariant-loop-device : goal.invariant-loop-device
invariant-loop-device g l = record {
  written : WritesAllBut (g.W.ByteOut.taken l.fn.writer) (g.W.ByteOut.taken l.writer) (l.fn.output ++ entries_text (map device_entry l.devices))
      (l.output ++ entries_text (map device_entry (drop l.device-index l.devices)));
  quiet : g.W.ByteOut.failed_calls l.writer ≡ g.W.ByteOut.failed_calls l.fn.writer;
}
