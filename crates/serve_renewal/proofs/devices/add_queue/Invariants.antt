use Rattle.std.proofs.Common.{◌≡◌, ◌++◌, take}
use Rattle.std.specs.List.{flat_map}
use Rattle.serve_downlinks.specs.Batch.{entries_text}
use Rattle.serve_renewal.specs.State.{payload_entries}
use Rattle.serve_renewal.proofs.devices.add_queue.Given as goal

abbrev pub invariant-loop-payload : goal.invariant-loop-payload
invariant-loop-payload g l =
    l.text.items
    ≡ l.initial.text.items ++ entries_text (flat_map (payload_entries l.addr) (take l.payload-index l.waiting))
