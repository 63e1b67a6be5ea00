use Rattle.server_desk.proofs.TakeLemmas.{at_here, ticket_told, job_here, is_job_here}
use Rattle.server_desk.proofs.desk.Desk.ticket.Goals as goal

pub new-requires : goal.new-requires
new-requires g c =
    let ready = rw (← c.self.view_is) at c.requires in
    let at = at_here _ _ _ _ _ c.self.invariant.0 c.args.n _ ready.uplink _ c.index.ensures in
    let copies = rw (← c.self.view_is) at c.in_ok-copies.ensures in
    rw (c.in_ok-job.ensures, copies) (is_job_here _ _ _ _ _ c.self.invariant.0 c.args.n _ ready.uplink _ at ready)

pub returns-clause-job : goal.returns-clause-job
returns-clause-job g c =
    let ready = rw (← c.self.view_is) at c.requires in
    let at = at_here _ _ _ _ _ c.self.invariant.0 c.args.n _ ready.uplink _ c.index.ensures in
    let copies = rw (← c.self.view_is) at c.in_ok-copies.ensures in
    ticket_told c.new.result c.in_ok-job.job _ c.new.ensures (rw (← c.self.view_is, c.in_ok-job.ensures, copies)
    (job_here _ _ _ _ _ c.self.invariant.0 c.args.n _ ready.uplink _ at ready))
