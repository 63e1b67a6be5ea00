use Rattle.server_workers.proofs.ServedLemmas.{done_on}
use Rattle.server_workers.proofs.member.Member.work.Goals as goal

pub invariant_of-self-clause-done : goal.invariant_of-self-clause-done
invariant_of-self-clause-done g c =
    done_on g.K.Room.numbers c.args.station.now c.args.self.now.worked c.work_on.new.worked c.args.self.now.done
    c.work_on.ensures.turns
