use Rattle.server_desk.proofs.OpeningLemmas.{addr_added}
use Rattle.server_desk.proofs.opening.addrs_of.Goals as goal

pub loop-device-preserved : goal.loop-device-preserved
loop-device-preserved g c =
    addr_added c.args.devices.now c.loop-device.device-index _ c.loop-device.addrs.keys c.insert.new.self.keys c.requires
    c.loop-device-test.true c.loop-device.invariant c.in_ok-insert.ensures.keys
