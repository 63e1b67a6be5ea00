use Rattle.std.proofs.Common.{ℕ, List, ◌++◌, ◌∙◌, map, ap, arith, subst}
use Rattle.text_lines.specs.Calls.{next_count}
use Rattle.text_lines.specs.Line.{text_of}
use Rattle.text_lines.specs.Writing.{WritesAllBut, WritesFront}
use Rattle.serve_journal.proofs.PuttingLemmas.{one_put, front_put}
use Rattle.journal_sql.specs.Rows.{device_row}
use Rattle.journal_sql.proofs.RowLemmas.{line_text, each_row}
use Rattle.journal_sql.proofs.writing.put_devices.Goals as goal

pub loop-device-preserved : goal.loop-device-preserved
loop-device-preserved g c =
    let put = c.in-Ok.ensures in
    let P : List ℕ → Type 0 = λ l. WritesAllBut (g.W.ByteOut.taken c.loop-device.writer) (g.W.ByteOut.taken c.put_line.new.writer)
    (c.loop-device.output ++ l) c.put_line.new.output in
    record {
      written =
          one_put (λ xs. text_of (map device_row xs)) (λ x. line_text (device_row x)) (each_row device_row) _ _ _ _ c.loop-device.output c.put_line.new.output
          c.args.devices.now c.loop-device.device-index c.device-item.result (omega arith) c.device-item.is c.loop-device.invariant.written
          (subst P c.write_device.ensures put.0);
      quiet = put.1 ∙ c.loop-device.invariant.quiet;
    }

pub returns-in-Err : goal.returns-in-Err
returns-in-Err g c =
    let put = c.in-Err.ensures in
    let P : List ℕ → Type 0 = λ l. WritesFront (g.W.ByteOut.taken c.loop-device.writer) (g.W.ByteOut.taken c.put_line.new.writer)
    (c.loop-device.output ++ l) in (
      front_put (λ xs. text_of (map device_row xs)) (λ x. line_text (device_row x)) (each_row device_row) _ _ _ _ c.loop-device.output
          c.args.devices.now c.loop-device.device-index c.device-item.result (omega arith) c.device-item.is c.loop-device.invariant.written
          (subst P c.write_device.ensures put.0),
      put.1 ∙ ap next_count c.loop-device.invariant.quiet,
    )
