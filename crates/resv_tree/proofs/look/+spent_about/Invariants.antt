use Rattle.resv_tree.specs.Shape.{shape_of, height_of}
use Rattle.resv_tree.proofs.look.+spent_about.Given as goal

abbrev pub decreases-spent_about : goal.decreases-spent_about
decreases-spent_about g l = height_of (shape_of l.link.now)
