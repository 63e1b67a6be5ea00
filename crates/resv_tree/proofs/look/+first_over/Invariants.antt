use Rattle.resv_tree.specs.Shape.{shape_of, height_of}
use Rattle.resv_tree.proofs.look.+first_over.Given as goal

abbrev pub decreases-first_over : goal.decreases-first_over
decreases-first_over g l = height_of (shape_of l.link.now)
