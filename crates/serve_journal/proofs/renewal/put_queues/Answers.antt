use Rattle.std.proofs.Common.{◌++◌, ◌∙◌, List, map, ap, arith, subst}
use Rattle.std.specs.List.{flat_map}
use Rattle.text_lines.specs.Calls.{next_count}
use Rattle.text_lines.specs.Writing.{WritesAllBut, WritesFront}
use Rattle.serve_journal.specs.declared.entry.Entry.TheVariants.{Queue}
use Rattle.serve_journal.specs.Payload.{Waiting}
use Rattle.serve_journal.specs.Journal.{Node}
use Rattle.serve_journal.specs.Renewal.{entries_text, queue_entries}
use Rattle.serve_journal.proofs.PuttingLemmas.{each_part, one_put, front_put}
use Rattle.serve_journal.proofs.renewal.put_queues.Goals as goal

pub loop-device-preserved : goal.loop-device-preserved
loop-device-preserved g c =
    let put = c.in-Ok.ensures in
    let P : Node → Type 0 = λ x. WritesAllBut (g.W.ByteOut.taken c.loop-device.writer) (g.W.ByteOut.taken c.put_queue.new.writer)
    (c.loop-device.output ++ entries_text (queue_entries x)) c.put_queue.new.output in
    let Q : List Waiting → Type 0 = λ l. WritesAllBut (g.W.ByteOut.taken c.loop-device.writer) (g.W.ByteOut.taken c.put_queue.new.writer)
    (c.loop-device.output ++ entries_text (map (Queue c.device.inside.addr) l)) c.put_queue.new.output in
    record {
      written =
          one_put (λ xs. entries_text (flat_map queue_entries xs)) (λ x. entries_text (queue_entries x)) (each_part queue_entries) _ _ _ _ c.loop-device.output c.put_queue.new.output
          c.args.devices.now c.loop-device.device-index c.device-item.result (omega arith) c.device-item.is c.loop-device.invariant.written (subst P c.device.view_is (subst Q c.deref.ensures.value put.0));
      quiet = put.1 ∙ c.loop-device.invariant.quiet;
    }

pub returns-in-Err : goal.returns-in-Err
returns-in-Err g c =
    let put = c.in-Err.ensures in
    let P : Node → Type 0 = λ x. WritesFront (g.W.ByteOut.taken c.loop-device.writer) (g.W.ByteOut.taken c.put_queue.new.writer)
    (c.loop-device.output ++ entries_text (queue_entries x)) in
    let Q : List Waiting → Type 0 = λ l. WritesFront (g.W.ByteOut.taken c.loop-device.writer) (g.W.ByteOut.taken c.put_queue.new.writer)
    (c.loop-device.output ++ entries_text (map (Queue c.device.inside.addr) l)) in (
      front_put (λ xs. entries_text (flat_map queue_entries xs)) (λ x. entries_text (queue_entries x)) (each_part queue_entries) _ _ _ _ c.loop-device.output c.args.devices.now c.loop-device.device-index c.device-item.result
          (omega arith) c.device-item.is c.loop-device.invariant.written (subst P c.device.view_is (subst Q c.deref.ensures.value put.0)),
      put.1 ∙ ap next_count c.loop-device.invariant.quiet,
    )
