use Rattle.resv_tree.specs.Shape.{shape_of, height_of}
use Rattle.resv_tree.proofs.stretch.+shift.Given as goal

abbrev pub decreases-shift : goal.decreases-shift
decreases-shift g l = height_of (shape_of l.link.now)
