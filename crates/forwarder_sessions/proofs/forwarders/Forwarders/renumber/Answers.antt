use Rattle.std.proofs.Common.{arith}
use Rattle.forwarder_sessions.specs.Sessions.{renumbered}
use Rattle.forwarder_sessions.proofs.Renumbering.{set_next}
use Rattle.forwarder_sessions.proofs.forwarders.Forwarders.renumber.Goals as goal

pub loop-place-preserved : goal.loop-place-preserved
loop-place-preserved g c =
    set_next renumbered c.args.self.now.sessions.items c.loop-place.self.sessions.items c.loop-place.place c.index_mut.result.now
    c.renumber.new.self (omega (arith, c.args.self.now.sessions.ok.0, c.len-place-end.ensures, c.loop-place-test.true))
    c.loop-place.invariant c.index_mut.ensures.value c.renumber.ensures
