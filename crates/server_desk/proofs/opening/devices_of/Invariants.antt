use Rattle.server_desk.proofs.Words.{◌≡◌, false, map, take, All, opened_device, shown}
use Rattle.server_desk.proofs.opening.devices_of.Given as goal

abbrev pub invariant-loop-device : goal.invariant-loop-device
invariant-loop-device g l =
    (map shown l.kepts.items ≡ map opened_device (take l.device-index l.devices)) × All (λ k. k.out ≡ false) l.kepts.items
