use Rattle.std.proofs.Common.{map}
use Rattle.serve_downlinks.specs.Downlinks.{to_send}
use Rattle.serve_downlinks.proofs.Found.{downlinks_next}
use Rattle.serve_downlinks.proofs.downlink.downlinks_of.Goals as goal

pub loop-place-preserved : goal.loop-place-preserved
loop-place-preserved g c =
    downlinks_next (map to_send c.loop-place.found.items) (map to_send c.add_first.new.found.items) _ c.args.entries.now
    c.loop-place.place c.loop-place-test.true c.loop-place.invariant c.in_ok-add_first.ensures
