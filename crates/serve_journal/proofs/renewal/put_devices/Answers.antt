use Rattle.std.proofs.Common.{◌++◌, ◌∙◌, map, ap, arith, subst}
use Rattle.text_lines.specs.Calls.{next_count}
use Rattle.text_lines.specs.Writing.{WritesAllBut, WritesFront}
use Rattle.serve_journal.specs.declared.entry.Entry.{Entry}
use Rattle.serve_journal.specs.Renewal.{entries_text, device_entry}
use Rattle.serve_journal.proofs.PuttingLemmas.{line_text, each_line, one_put, front_put}
use Rattle.serve_journal.proofs.renewal.put_devices.Goals as goal

pub loop-device-preserved : goal.loop-device-preserved
loop-device-preserved g c =
    let put = c.in-Ok.ensures in
    let P : Entry → Type 0 = λ e. WritesAllBut (g.W.ByteOut.taken c.loop-device.writer) (g.W.ByteOut.taken c.put_entry.new.writer)
    (c.loop-device.output ++ line_text e) c.put_entry.new.output in
    record {
      written =
          one_put (λ xs. entries_text (map device_entry xs)) (λ x. line_text (device_entry x)) (each_line device_entry) _ _ _ _ c.loop-device.output c.put_entry.new.output
          c.args.devices.now c.loop-device.device-index c.device-item.result (omega arith) c.device-item.is c.loop-device.invariant.written (subst P c.entry.ensures put.0);
      quiet = put.1 ∙ c.loop-device.invariant.quiet;
    }

pub returns-in-Err : goal.returns-in-Err
returns-in-Err g c =
    let put = c.in-Err.ensures in
    let P : Entry → Type 0 = λ e. WritesFront (g.W.ByteOut.taken c.loop-device.writer) (g.W.ByteOut.taken c.put_entry.new.writer)
    (c.loop-device.output ++ line_text e) in (
      front_put (λ xs. entries_text (map device_entry xs)) (λ x. line_text (device_entry x)) (each_line device_entry) _ _ _ _ c.loop-device.output c.args.devices.now c.loop-device.device-index c.device-item.result
          (omega arith) c.device-item.is c.loop-device.invariant.written (subst P c.entry.ensures put.0),
      put.1 ∙ ap next_count c.loop-device.invariant.quiet,
    )
