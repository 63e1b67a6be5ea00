use Rattle.std.proofs.Common.{map}
use Rattle.serve_downlinks.specs.Downlinks.{to_send}
use Rattle.serve_downlinks.specs.Batch.{clock_if_sends}
use Rattle.serve_downlinks.proofs.Texts.{texts_next}
use Rattle.serve_downlinks.proofs.batch.add_clocks.Goals as goal

pub loop-session-preserved : goal.loop-session-preserved
loop-session-preserved g c =
    texts_next (clock_if_sends c.args.now c.args.books.now (map to_send c.args.downlinks.now)) c.args.batch.now.items
    c.loop-session.batch.items c.add_clock.new.batch.items c.args.sessions.now c.loop-session.session-index c.session-item.result
    c.loop-session-test.true c.session-item.is c.loop-session.invariant c.in_ok-add_clock.ensures
