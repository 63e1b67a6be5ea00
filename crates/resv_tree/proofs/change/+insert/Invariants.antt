use Rattle.resv_tree.specs.Shape.{shape_of, height_of}
use Rattle.resv_tree.proofs.change.+insert.Given as goal

abbrev pub decreases-insert : goal.decreases-insert
decreases-insert g l = height_of (shape_of l.link)
