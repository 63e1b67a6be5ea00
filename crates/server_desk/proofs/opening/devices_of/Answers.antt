use Rattle.server_desk.proofs.OpeningLemmas.{opened_more}
use Rattle.server_desk.proofs.opening.devices_of.Goals as goal

pub loop-device-preserved : goal.loop-device-preserved
loop-device-preserved g c =
    opened_more c.args.devices.now c.loop-device.device-index _ c.loop-device.kepts.items c.push.new.self.items c.new.result
    c.loop-device-test.true c.loop-device.invariant c.new.ensures.shown c.new.ensures.out c.in_ok-push.ensures.items
