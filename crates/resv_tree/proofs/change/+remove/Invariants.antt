use Rattle.resv_tree.specs.Shape.{shape_of, height_of}
use Rattle.resv_tree.proofs.change.+remove.Given as goal

abbrev pub decreases-remove : goal.decreases-remove
decreases-remove g l = height_of (shape_of l.link)
