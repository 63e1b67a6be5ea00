use Rattle.std.proofs.Common.{◌≡◌, ◌++◌, drop, map}
use Rattle.forwarder_packets.specs.Entries.{ghosts}
use Rattle.forwarder_packets.specs.Seen.{received}
use Rattle.forwarder_packets.proofs.entries.ghosts_of.Given as goal

-- what was found so far, and what is found of the rest, is what is found of all
abbrev pub invariant-loop-at : goal.invariant-loop-at
invariant-loop-at g l =
    l.found.items ++ ghosts (map received l.entries) l.at (map received (drop l.at l.entries))
    ≡ ghosts (map received l.entries) 0 (map received l.entries)
