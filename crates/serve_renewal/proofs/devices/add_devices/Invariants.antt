use Rattle.std.proofs.Common.{◌≡◌, ◌++◌, take}
use Rattle.std.specs.List.{flat_map}
use Rattle.server_core.specs.Server.{seen}
use Rattle.serve_downlinks.specs.Batch.{entries_text}
use Rattle.serve_renewal.specs.State.{device_entries}
use Rattle.serve_renewal.proofs.devices.add_devices.Given as goal

abbrev pub invariant-loop-known : goal.invariant-loop-known
invariant-loop-known g l =
    l.text.items
    ≡ l.initial.text.items
    ++ entries_text (flat_map (device_entries (seen l.server).desk.reg.devices) (take l.known-index l.device_sessions))
