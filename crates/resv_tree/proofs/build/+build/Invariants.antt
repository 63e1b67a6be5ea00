use Rattle.resv_tree.proofs.build.+build.Given as goal

abbrev pub decreases-build : goal.decreases-build
decreases-build g l = l.count
