use Rattle.serve_turns.proofs.Sendings.{sends_next}
use Rattle.serve_turns.proofs.sending.send_all.Goals as goal

pub loop-place-preserved : goal.loop-place-preserved
loop-place-preserved g c =
    sends_next _ _ _ c.args.asks.now c.loop-place.went c.loop-place.place c.index-asks-place.result c.send_one.result
    c.loop-place-test.true c.loop-place.invariant.0 c.index-asks-place.is c.loop-place.invariant.1 c.send_one.ensures
