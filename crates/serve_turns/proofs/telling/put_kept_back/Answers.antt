use Rattle.serve_downlinks.specs.Downlinks.{to_send}
use Rattle.serve_downlinks.specs.Fates.{fate_of}
use Rattle.serve_turns.specs.Sending.{kept_back_by}
use Rattle.serve_turns.proofs.Lists.{flat_told}
use Rattle.serve_turns.proofs.telling.put_kept_back.Goals as goal

pub loop-downlink-preserved : goal.loop-downlink-preserved
loop-downlink-preserved g c =
    flat_told (λ d. kept_back_by d (fate_of d c.args.sessions.now)) to_send c.args.text.now.writer.items
    c.loop-downlink.text.writer.items c.put_if_kept_back.new.text.writer.items c.args.downlinks.now c.loop-downlink.downlink-index _
    c.loop-downlink-test.true c.loop-downlink.invariant c.in_ok-put_if_kept_back.ensures
