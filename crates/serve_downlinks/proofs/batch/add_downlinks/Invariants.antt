use Rattle.std.proofs.Common.{◌≡◌, ◌++◌, map, take}
use Rattle.std.specs.List.{flat_map}
use Rattle.server_core.specs.Server.{seen}
use Rattle.serve_downlinks.specs.Downlinks.{to_send}
use Rattle.serve_downlinks.specs.Batch.{send_entries, entries_text}
use Rattle.serve_downlinks.proofs.batch.add_downlinks.Given as goal

-- what is said of those so far was added
abbrev pub invariant-loop-downlink : goal.invariant-loop-downlink
invariant-loop-downlink g l =
    l.batch.items
    ≡ l.initial.batch.items
    ++ entries_text (flat_map (send_entries (seen l.server).desk.reg.devices l.device_sessions)
    (map to_send (take l.downlink-index l.downlinks)))
