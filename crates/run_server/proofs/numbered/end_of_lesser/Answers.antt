use Rattle.std.proofs.Common.{rules, nat_lt}
use Rattle.std.proofs.lemmas.List.Sorted.{IsPartitionPoint-from_clause, IsPartitionedBy-ltb}
use Rattle.run_server.proofs.NumberLemmas.{halved}
use Rattle.run_server.proofs.numbered.end_of_lesser.Goals as goal

pub returns : goal.returns
returns g c =
    halved g.T.Numbered.number_of c.args.number c.args.items.now c.partition_point.result c.partition_point.ensures.bound
    (IsPartitionPoint-from_clause (λ x. nat_lt (g.T.Numbered.number_of x) c.args.number) c.args.items.now
    c.partition_point.result c.partition_point.ensures.partitioned
    (IsPartitionedBy-ltb g.T.Numbered.number_of c.args.items.now c.args.number c.requires) (λ a r q k. search rules))
