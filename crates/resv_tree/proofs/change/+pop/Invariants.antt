use Rattle.resv_tree.specs.Shape.{shape, height_of}
use Rattle.resv_tree.proofs.change.+pop.Given as goal

abbrev pub decreases-pop : goal.decreases-pop
decreases-pop g l = height_of (shape l.top.value)
