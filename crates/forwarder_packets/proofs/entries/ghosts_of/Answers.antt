use Rattle.std.proofs.Common.{◌++◌, ◌+◌, ◌∙◌, drop, map, ap, arith}
use Rattle.forwarder_packets.specs.Entries.{is_ghost, ghosts}
use Rattle.forwarder_packets.specs.Seen.{received}
use Rattle.forwarder_packets.proofs.Ghosts.{ghost_more, ghosts_told, as_many}
use Rattle.forwarder_packets.proofs.entries.ghosts_of.Goals as goal

pub loop-at-preserved : goal.loop-at-preserved
loop-at-preserved g c =
    let entries = c.args.entries.now in
    let at = c.loop-at.at in
    ap (λ found. found ++ ghosts (map received entries) (at + 1) (map received (drop (at + 1) entries))) c.in_ok-push.ensures.items
    ∙ ghost_more received entries at c.index-entries-at.result c.loop-at.found.items c.is_ghost.result c.loop-at-test.true
    (c.is_ghost.ensures ∙ ap (λ e. is_ghost (map received entries) at (received e)) c.index-entries-at.is) c.loop-at.invariant

pub returns-clause-ghosts : goal.returns-clause-ghosts
returns-clause-ghosts g c =
    ghosts_told received c.args.entries.now c.loop-at.at c.loop-at.found.items
    (omega (arith, c.loop-at-test.false, c.loop-at.auto.at-end)) c.loop-at.invariant

pub returns-clause-count : goal.returns-clause-count
returns-clause-count g c =
    as_many received c.args.entries.now c.loop-at.found.items
    (ghosts_told received c.args.entries.now c.loop-at.at c.loop-at.found.items
    (omega (arith, c.loop-at-test.false, c.loop-at.auto.at-end)) c.loop-at.invariant)
