use Rattle.serve_turns.specs.Sending.{unsent_line}
use Rattle.serve_turns.proofs.Lists.{pairs_told}
use Rattle.serve_turns.proofs.telling.put_unsent.Goals as goal

pub loop-place-preserved : goal.loop-place-preserved
loop-place-preserved g c =
    pairs_told unsent_line c.args.text.now.writer.items c.loop-place.text.writer.items c.put_if_unsent.new.text.writer.items
    c.args.asks.now c.args.went.now c.loop-place.place c.index-asks-place.result _ c.loop-place-test.true c.requires
    c.index-asks-place.is c.loop-place.invariant c.in_ok-put_if_unsent.ensures
