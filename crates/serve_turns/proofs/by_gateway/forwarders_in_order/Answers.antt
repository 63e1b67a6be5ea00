use Rattle.serve_turns.proofs.Paired.{paired_next}
use Rattle.serve_turns.proofs.by_gateway.forwarders_in_order.Goals as goal

pub loop-place-preserved : goal.loop-place-preserved
loop-place-preserved g c =
    paired_next c.args.gateways.now c.args.set.now c.loop-place.place _ _ _ c.loop-place-test.true c.loop-place.invariant
    c.in_ok-add.ensures
