use Rattle.std.proofs.Common.{◌≡◌, ◌++◌, drop, map}
use Rattle.json.specs.Value.{value_view}
use Rattle.forwarder_packets.specs.Entry.{entry_of}
use Rattle.forwarder_packets.specs.Seen.{received}
use Rattle.forwarder_packets.proofs.entries.read_each.Given as goal

-- what was read so far, and what the rest tells, is what all tell
abbrev pub invariant-loop-item : goal.invariant-loop-item
invariant-loop-item g l =
    map received l.entries.items ++ map (λ v. entry_of (value_view v)) (drop l.item-index l.items)
    ≡ map (λ v. entry_of (value_view v)) l.items
