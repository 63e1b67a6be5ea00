use Rattle.std.proofs.Common.{◌≡◌, ◌++◌, map}
use Rattle.std.specs.Vec.Iter.{into_iter_items}
use Rattle.serve_opening.proofs.waiting.add_all.Given as goal

abbrev pub invariant-loop-payload : goal.invariant-loop-payload
invariant-loop-payload g l =
    l.waiting.items ++ map (λ payload. (l.addr, payload)) (into_iter_items l.payload-iterator)
    ≡ l.fn.waiting.items ++ map (λ payload. (l.fn.addr, payload)) l.fn.queue.items
