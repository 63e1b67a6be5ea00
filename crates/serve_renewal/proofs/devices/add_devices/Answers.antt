use Rattle.server_core.specs.Server.{seen}
use Rattle.serve_renewal.specs.State.{device_entries}
use Rattle.serve_renewal.proofs.Parts.{texts_get}
use Rattle.serve_renewal.proofs.devices.add_devices.Goals as goal

pub loop-known-preserved : goal.loop-known-preserved
loop-known-preserved g c =
    texts_get (device_entries (seen c.args.server.now).desk.reg.devices) c.args.text.now.items c.loop-known.text.items
    c.add_device.new.text.items c.args.device_sessions.now c.loop-known.known-index _ c.loop-known-test.true
    c.loop-known.invariant c.in_ok-add_device.ensures
