use Rattle.serve_turns.proofs.Paired.{high_next}
use Rattle.serve_turns.proofs.by_gateway.with_highs.Goals as goal

pub loop-place-preserved : goal.loop-place-preserved
loop-place-preserved g c =
    high_next c.args.forwarders.now c.args.highs.now c.loop-place.place _ _ _ c.loop-place-test.true c.loop-place.invariant
    c.in_ok-add_high.ensures
