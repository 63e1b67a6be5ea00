use Rattle.serve_downlinks.specs.Downlinks.{to_send}
use Rattle.serve_downlinks.specs.Fates.{fate_of}
use Rattle.serve_turns.specs.Sending.{asked_by}
use Rattle.serve_turns.proofs.Lists.{flat_added}
use Rattle.serve_turns.proofs.asking.asked.Goals as goal

pub loop-downlink-preserved : goal.loop-downlink-preserved
loop-downlink-preserved g c =
    flat_added (λ d. asked_by d (fate_of d c.args.sessions.now)) to_send c.loop-downlink.all.items c.add_asked.new.all.items
    c.args.downlinks.now c.loop-downlink.downlink-index _ c.loop-downlink-test.true c.loop-downlink.invariant
    c.in_ok-add_asked.ensures
