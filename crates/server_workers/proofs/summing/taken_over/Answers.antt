use Rattle.std.proofs.Common.{rules, subst, ◌∙◌}
use Rattle.server_workers.specs.Filing.{filing, IsReordered}
use Rattle.server_workers.specs.Lists.{lists_of_served}
use Rattle.server_workers.proofs.AloneLemmas.{alone_summed_up}
use Rattle.server_workers.proofs.summing.taken_over.Goals as goal

pub returns-clause-all : goal.returns-clause-all
returns-clause-all g c =
    let own = c.parted-own.ensures in
    alone_summed_up c.args.worked c.sorted.result (search rules)
    (subst (λ l. IsReordered (filing l) (filing (lists_of_served c.sorted.result))) own.lists c.sorted.ensures.same)
    (c.sorted.ensures.overrun ∙ own.overrun)
