use Rattle.serve_downlinks.proofs.Texts.{texts_next}
use Rattle.serve_renewal.specs.State.{payload_entries}
use Rattle.serve_renewal.proofs.devices.add_queue.Goals as goal

pub loop-payload-preserved : goal.loop-payload-preserved
loop-payload-preserved g c =
    texts_next (payload_entries c.args.addr) c.args.text.now.items c.loop-payload.text.items c.add_payload.new.text.items
    c.args.waiting.now c.loop-payload.payload-index c.payload-item.result c.loop-payload-test.true c.payload-item.is
    c.loop-payload.invariant c.in_ok-add_payload.ensures
