use Rattle.serve_turns.proofs.Drops.{drops_next}
use Rattle.serve_turns.proofs.telling.put_drops.Goals as goal

pub loop-tally-preserved : goal.loop-tally-preserved
loop-tally-preserved g c =
    drops_next c.args.text.now.writer.items c.loop-tally.text.writer.items c.put_drop.new.text.writer.items c.args.drops.now
    c.loop-tally.tally-index c.tally-item.result c.loop-tally-test.true c.tally-item.is c.loop-tally.invariant c.in_ok-put_drop.ensures
