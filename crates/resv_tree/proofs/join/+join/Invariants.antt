use Rattle.std.proofs.Common.{◌+◌}
use Rattle.resv_tree.specs.Shape.{shape_of, height_of}
use Rattle.resv_tree.proofs.join.+join.Given as goal

abbrev pub decreases-join : goal.decreases-join
decreases-join g l = height_of (shape_of l.left) + height_of (shape_of l.right)
