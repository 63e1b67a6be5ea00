use Rattle.resv_tree.specs.Shape.{shape_of, height_of}
use Rattle.resv_tree.proofs.look.+from.Given as goal

abbrev pub decreases-from : goal.decreases-from
decreases-from g l = height_of (shape_of l.link.now)
