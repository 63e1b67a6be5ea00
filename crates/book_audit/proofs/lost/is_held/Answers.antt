use Rattle.std.proofs.Common.{rules, refl, nat_lt}
use Rattle.std.proofs.lemmas.List.Sorted.{IsPartitionPoint-from_clause, IsPartitionedBy-ltb}
use Rattle.book_audit.specs.Held.{Kept}
use Rattle.book_audit.proofs.LostLemmas.{at_named}
use Rattle.book_audit.proofs.lost.is_held.Goals as goal

pub returns-then-stands_at : goal.returns-then-stands_at
returns-then-stands_at c =
    let there = c.stands_at.ensures.0 c.if-stands_at.true in
    (λ t. (c.args.likely.now, there.0, there.1), λ found. refl)

pub returns : goal.returns
returns c =
    let point = IsPartitionPoint-from_clause (λ (h : Kept). nat_lt h.1.number c.args.reservation.now.number) c.args.held.now
    c.partition_point-at.result c.partition_point-at.ensures.partitioned
    (IsPartitionedBy-ltb (λ (h : Kept). h.1.number) c.args.held.now c.args.reservation.now.number c.requires.rising)
    (λ a r q k. search rules) in (
      λ t. let there = c.stands_at-2.ensures.0 t in (c.partition_point-at.result, there.0, there.1),
      λ found.
          c.stands_at-2.ensures.1
          (at_named c.args.held.now c.requires.rising c.requires.differ c.partition_point-at.result
          c.args.reservation.now.number point.0 point.1 _ found refl),
    )
