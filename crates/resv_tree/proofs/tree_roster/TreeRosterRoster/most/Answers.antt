use Rattle.std.proofs.Common.{arith}
use Rattle.resv_tree.specs.Shape.{shape_of}
use Rattle.resv_tree.proofs.HourLemmas.{greatest_is_spent}
use Rattle.resv_tree.proofs.tree_roster.TreeRosterRoster.most.Goals as goal

pub returns : goal.returns
returns g c =
    omega (
      arith,
      c.greatest_in.ensures,
      greatest_is_spent (shape_of c.args.self.now.root) c.args.band c.args.self.now.whole c.args.self.now.hours,
    )
