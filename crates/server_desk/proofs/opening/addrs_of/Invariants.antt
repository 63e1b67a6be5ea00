use Rattle.server_desk.proofs.Words.{◌≡◌, map, take}
use Rattle.server_desk.proofs.opening.addrs_of.Given as goal

abbrev pub invariant-loop-device : goal.invariant-loop-device
invariant-loop-device g l = l.addrs.keys ≡ map (λ d. d.addr) (take l.device-index l.devices)
