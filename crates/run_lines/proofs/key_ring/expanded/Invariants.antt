use Rattle.std.proofs.Common.{take}
use Rattle.run_lines.specs.KeyRing.{KeepsKeys}
use Rattle.run_lines.proofs.key_ring.expanded.Given as goal

abbrev pub invariant-loop-device : goal.invariant-loop-device
invariant-loop-device l = KeepsKeys (take l.device-index l.devices) l.keys
