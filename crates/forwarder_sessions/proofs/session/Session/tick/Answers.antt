use Rattle.std.proofs.Common.{arith}
use Rattle.forwarder_sessions.proofs.Early.{early_of}
use Rattle.forwarder_sessions.proofs.session.Session.tick.Goals as goal

-- moments and leads are small enough for their sum
pub overflow_add-result-2 : goal.overflow_add-result-2
overflow_add-result-2 c =
    omega (
      arith,
      early_of _ _ c.self.invariant.newest c.in-Some.is,
      c.self.invariant.lead,
      c.requires,
      c.saturating_sub-passed.ensures,
      c.from.ensures,
    )
