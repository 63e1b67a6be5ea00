use Rattle.std.proofs.Common.{◌≡◌, take, map}
use Rattle.forwarder_packets.specs.Entries.{unless_ghosts}
use Rattle.forwarder_packets.specs.Seen.{received}
use Rattle.forwarder_packets.proofs.entries.drop_ghosts.Given as goal

-- the ghosts so far were dropped
abbrev pub invariant-loop-at : goal.invariant-loop-at
invariant-loop-at g l = map received l.entries ≡ unless_ghosts (take l.at l.ghosts) (map received l.initial.entries)
