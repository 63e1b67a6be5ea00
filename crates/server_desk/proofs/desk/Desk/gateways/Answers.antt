use Rattle.server_desk.proofs.AirtimeSums.{whole_told}
use Rattle.server_desk.proofs.desk.Desk.gateways.Goals as goal

pub returns-clause-whole : goal.returns-clause-whole
returns-clause-whole g c = rw (← c.self.view_is) (whole_told _ _ _ _ c.self.invariant.1)
