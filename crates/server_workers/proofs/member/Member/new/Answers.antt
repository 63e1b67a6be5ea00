use Rattle.std.proofs.Common.{ap}
use Rattle.server_workers.proofs.ServedLemmas.{done_none}
use Rattle.server_workers.proofs.member.Member.new.Goals as goal

pub invariant_of-result-clause-before : goal.invariant_of-result-clause-before
invariant_of-result-clause-before g c = λ begun. ap (λ f. f.outcomes) c.requires.none.filed

pub invariant_of-result-clause-done : goal.invariant_of-result-clause-done
invariant_of-result-clause-done g c = done_none g.K.Room.numbers c.args.worked c.requires.none
