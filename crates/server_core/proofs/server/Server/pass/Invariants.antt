use Rattle.server_core.proofs.Words.{length, due_numbers, seen}
use Rattle.server_core.proofs.Passes.{ArePassing}
use Rattle.server_core.proofs.server.Server.pass.Given as goal

abbrev pub invariant-loop-number : goal.invariant-loop-number
invariant-loop-number g l = ArePassing l.place l.now (seen l.initial.self) (seen l.self)

abbrev pub decreases-loop-number : goal.decreases-loop-number
decreases-loop-number g l = length (due_numbers l.now l.self.desk.reg.gathered.list)
