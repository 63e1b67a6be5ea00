use Rattle.std.proofs.Common.{◌≡◌, map, take}
use Rattle.serve_downlinks.specs.Downlinks.{to_send}
use Rattle.serve_turns.specs.Sending.{asked}
use Rattle.serve_turns.proofs.asking.asked.Given as goal

abbrev pub invariant-loop-downlink : goal.invariant-loop-downlink
invariant-loop-downlink g l = l.all.items ≡ asked l.sessions (map to_send (take l.downlink-index l.downlinks))
