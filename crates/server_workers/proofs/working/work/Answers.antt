use Rattle.server_workers.proofs.WorkLemmas.{risen}
use Rattle.server_workers.proofs.working.work.Goals as goal

pub returns-clause-till : goal.returns-clause-till
returns-clause-till g c = risen _ _ c.work_on.ensures.more
