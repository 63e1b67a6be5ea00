use Rattle.std.proofs.Common.{◌≡◌, ◌++◌, map, take}
use Rattle.std.specs.List.{flat_map}
use Rattle.serve_downlinks.specs.Downlinks.{to_send}
use Rattle.serve_downlinks.specs.Batch.{clock_if_sends, entries_text}
use Rattle.serve_downlinks.proofs.batch.add_clocks.Given as goal

-- the clocks of those so far were added
abbrev pub invariant-loop-session : goal.invariant-loop-session
invariant-loop-session g l =
    l.batch.items
    ≡ l.initial.batch.items
    ++ entries_text (flat_map (clock_if_sends l.now l.books (map to_send l.downlinks)) (take l.session-index l.sessions))
