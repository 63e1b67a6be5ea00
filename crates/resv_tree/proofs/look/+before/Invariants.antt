use Rattle.resv_tree.specs.Shape.{shape_of, height_of}
use Rattle.resv_tree.proofs.look.+before.Given as goal

abbrev pub decreases-before : goal.decreases-before
decreases-before g l = height_of (shape_of l.link.now)
