use Rattle.server_core.proofs.Words.{length, ◌-◌, candidates, seen}
use Rattle.server_core.proofs.Settled.{AreTrying}
use Rattle.server_core.proofs.server.Server.tried.Given as goal

abbrev pub invariant-loop-ended : goal.invariant-loop-ended
invariant-loop-ended g l = AreTrying l.initial.ticket l.ticket (seen l.initial.self) (seen l.self)

abbrev pub decreases-loop-ended : goal.decreases-loop-ended
decreases-loop-ended g l = length (candidates l.ticket.job) - l.ticket.at
