use Rattle.std.proofs.Common.{◌≡◌, ◌++◌}
use Rattle.std.specs.Vec.Iter.{into_iter_items}
use Rattle.serve_opening.specs.Devices.{all_waits}
use Rattle.serve_opening.proofs.waiting.waiting_of.Given as goal

abbrev pub invariant-loop-device : goal.invariant-loop-device
invariant-loop-device g l =
    l.waiting.items ++ all_waits l.sessions (into_iter_items l.device-iterator) ≡ all_waits l.fn.sessions l.fn.devices.items
