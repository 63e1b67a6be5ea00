use Rattle.std.proofs.Common.{arith}
use Rattle.forwarder_packets.specs.Seen.{received}
use Rattle.forwarder_packets.proofs.Ghosts.{looked_at}
use Rattle.forwarder_packets.proofs.entries.drop_ghosts.Goals as goal

pub loop-at-preserved : goal.loop-at-preserved
loop-at-preserved g c =
    looked_at received c.args.ghosts.now c.loop-at.entries c.args.entries.now c.loop-at.at c.drop_if.new.entry c.index-entries-at.result
    c.loop-at-test.true (omega (arith, c.requires, c.loop-at-test.true)) c.loop-at.invariant c.drop_if.ensures
