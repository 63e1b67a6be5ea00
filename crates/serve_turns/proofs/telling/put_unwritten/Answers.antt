use Rattle.serve_turns.specs.Sending.{unwritten_line}
use Rattle.serve_turns.proofs.Lists.{map_told}
use Rattle.serve_turns.proofs.telling.put_unwritten.Goals as goal

pub loop-ask-preserved : goal.loop-ask-preserved
loop-ask-preserved g c =
    map_told unwritten_line c.args.text.now.writer.items c.loop-ask.text.writer.items c.put_unwritten_one.new.text.writer.items
    c.args.asks.now c.loop-ask.ask-index c.ask-item.result c.loop-ask-test.true c.ask-item.is c.loop-ask.invariant
    c.in_ok-put_unwritten_one.ensures
