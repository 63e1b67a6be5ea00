use Rattle.std.proofs.Common.{◌≡◌, map, take}
use Rattle.serve_opening.specs.Devices.{raised, session_at}
use Rattle.serve_opening.proofs.device.devices_of.Given as goal

abbrev pub invariant-loop-device : goal.invariant-loop-device
invariant-loop-device g l =
    record {
      settings : l.settings.items ≡ map (raised l.known) (take l.device-index l.devices);
      sessions : l.sessions.items ≡ map session_at (take l.device-index l.devices);
    }
