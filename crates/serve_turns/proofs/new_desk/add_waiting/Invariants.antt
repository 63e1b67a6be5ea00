use Rattle.std.proofs.Common.{◌≡◌, ◌++◌, map, take}
use Rattle.std.specs.List.{flat_map}
use Rattle.serve_renewal.specs.State.{waiting_of}
use Rattle.serve_turns.proofs.new_desk.add_waiting.Given as goal

abbrev pub invariant-loop-payload : goal.invariant-loop-payload
invariant-loop-payload g l =
    l.waiting.items
    ≡ l.initial.waiting.items ++ map (λ q. (l.addr, q)) (flat_map waiting_of (take l.payload-index l.queue))
