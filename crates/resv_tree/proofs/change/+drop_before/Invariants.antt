use Rattle.resv_tree.specs.Shape.{shape_of, height_of}
use Rattle.resv_tree.proofs.change.+drop_before.Given as goal

abbrev pub decreases-drop_before : goal.decreases-drop_before
decreases-drop_before g l = height_of (shape_of l.link)
