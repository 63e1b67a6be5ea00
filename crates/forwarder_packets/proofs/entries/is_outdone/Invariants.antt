use Rattle.std.proofs.Common.{◌≡◌, drop, map}
use Rattle.forwarder_packets.specs.Entries.{is_outdone}
use Rattle.forwarder_packets.specs.Seen.{received, shown}
use Rattle.forwarder_packets.proofs.entries.is_outdone.Given as goal

-- no entry so far does, so one of all does where one of the rest does
abbrev pub invariant-loop-place : goal.invariant-loop-place
invariant-loop-place g l =
    is_outdone 0 (map received l.entries) l.at (shown l.packet)
    ≡ is_outdone l.place (map received (drop l.place l.entries)) l.at (shown l.packet)
