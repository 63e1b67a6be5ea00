use Rattle.std.proofs.Common.{◌≡◌, ◌++◌, drop, map}
use Rattle.json.specs.Value.{value_view}
use Rattle.forwarder_packets.specs.Entries.{too_many}
use Rattle.forwarder_packets.specs.Seen.{received}
use Rattle.forwarder_packets.proofs.entries.add_too_many.Given as goal

-- what was added so far, with one more for each that is left
abbrev pub invariant-loop-item : goal.invariant-loop-item
invariant-loop-item g l =
    map received l.entries.items ++ map too_many (map value_view (drop l._item-index l.items))
    ≡ map received l.initial.entries.items ++ map too_many (map value_view l.items)
