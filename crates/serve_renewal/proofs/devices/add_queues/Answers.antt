use Rattle.server_core.specs.Server.{seen}
use Rattle.serve_renewal.proofs.Parts.{queue_next}
use Rattle.serve_renewal.proofs.devices.add_queues.Goals as goal

pub loop-known-preserved : goal.loop-known-preserved
loop-known-preserved g c =
    queue_next (seen c.args.server.now).desk.reg.devices c.args.text.now.items c.loop-known.text.items c.add_queue.new.text.items
    c.args.device_sessions.now c.loop-known.known-index _ c.waiting.result.now c.loop-known-test.true c.loop-known.invariant
    c.waiting.ensures c.in_ok-add_queue.ensures
