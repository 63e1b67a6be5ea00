use Rattle.std.proofs.Common.{◌≡◌, map, take}
use Rattle.serve_downlinks.specs.Downlinks.{to_send}
use Rattle.serve_turns.specs.Sending.{sendable}
use Rattle.serve_turns.proofs.asking.sendable.Given as goal

abbrev pub invariant-loop-downlink : goal.invariant-loop-downlink
invariant-loop-downlink g l =
    map to_send l.all.items ≡ sendable l.sessions (map to_send (take l.downlink-index l.downlinks))
