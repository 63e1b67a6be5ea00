use Rattle.std.proofs.Common.{arith, sym}
use Rattle.std.proofs.lemmas.Bool.{le-leb}
use Rattle.resv_tree.specs.Shape.{shape_of, members_of}
use Rattle.resv_tree.proofs.SumLemmas.{begun_difference}
use Rattle.resv_tree.proofs.TreeLemmas.{spent_short}
use Rattle.resv_tree.proofs.tree_roster.TreeRosterRoster.is_within.Goals as goal

pub overflow_add-before_to : goal.overflow_add-before_to
overflow_add-before_to g c =
    let self = c.args.self.now in
    omega (
      arith,
      c.spent_about.ensures.not_more,
      spent_short (shape_of self.root) c.args.band c.args.to self.whole,
      self.bounded,
      c.ranges.most.fits,
    )

pub returns-then-saturating_sub-most : goal.returns-then-saturating_sub-most
returns-then-saturating_sub-most g c =
    let l = members_of (shape_of c.args.self.now.root) in
    sym (le-leb _ _ (omega (
      arith,
      c.if-saturating_sub-most.true,
      c.saturating_sub.ensures,
      c.spent_about.ensures.not_less,
      c.spent_about-2.ensures.not_more,
      begun_difference c.args.band c.args.from c.args.to l,
    )))
