use Rattle.server_core.specs.Server.{seen}
use Rattle.serve_downlinks.specs.Batch.{send_entries}
use Rattle.serve_downlinks.proofs.Texts.{texts_at}
use Rattle.serve_downlinks.proofs.batch.add_downlinks.Goals as goal

pub loop-downlink-preserved : goal.loop-downlink-preserved
loop-downlink-preserved g c =
    texts_at (send_entries (seen c.args.server.now).desk.reg.devices c.args.device_sessions.now) c.args.batch.now.items
    c.loop-downlink.batch.items c.add_downlink.new.batch.items c.args.downlinks.now c.loop-downlink.downlink-index _
    c.loop-downlink-test.true c.loop-downlink.invariant c.in_ok-add_downlink.ensures
