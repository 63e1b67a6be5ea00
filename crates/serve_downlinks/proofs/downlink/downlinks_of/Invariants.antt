use Rattle.std.proofs.Common.{◌≡◌, ◌++◌, map, drop}
use Rattle.serve_downlinks.specs.Downlinks.{to_send, downlinks, line_of}
use Rattle.serve_downlinks.proofs.downlink.downlinks_of.Given as goal

-- those so far, and those of the lines from here on
abbrev pub invariant-loop-place : goal.invariant-loop-place
invariant-loop-place g l =
    map to_send l.found.items ++ downlinks (map line_of (drop l.place l.entries)) ≡ downlinks (map line_of l.entries)
