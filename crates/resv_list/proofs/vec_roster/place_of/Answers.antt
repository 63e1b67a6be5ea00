use Rattle.std.proofs.Common.{ℕ, nat_lt, rules, subst, sym}
use Rattle.std.proofs.lemmas.List.Sorted.{IsPartitionedBy-ltb, IsPartitionPoint-from_clause}
use Rattle.resv_list.specs.Sorted.{IsCut}
use Rattle.resv_list.proofs.CutLemmas.{RisesFrom-IsNonDecreasingBy, place_by-cut}
use Rattle.resv_list.specs.Reservations.{start_of}
use Rattle.resv_list.proofs.vec_roster.place_of.Goals as goal

pub returns-clause-cut : goal.returns-clause-cut
returns-clause-cut c =
    IsPartitionPoint-from_clause
    (λ r. nat_lt (start_of r) c.args.start)
    c.args.members.now
    c.partition_point.result
    c.partition_point.ensures.partitioned
    (IsPartitionedBy-ltb start_of c.args.members.now c.args.start
    (RisesFrom-IsNonDecreasingBy start_of 0 c.args.members.now c.requires))
    (search rules)

pub returns-clause-placed : goal.returns-clause-placed
returns-clause-placed c r e =
    place_by-cut
    start_of
    r
    c.args.members.now
    c.partition_point.result
    (subst (λ (t : ℕ). IsCut (λ s. nat_lt (start_of s) t) c.args.members.now c.partition_point.result) (sym e)
    (returns-clause-cut c))
