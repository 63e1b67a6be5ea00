use Rattle.std.proofs.Common.{arith}
use Rattle.resv_tree.specs.Shape.{shape_of}
use Rattle.resv_tree.proofs.ShapeLemmas.{count_bounds_height}
use Rattle.resv_tree.proofs.told.height.Goals as goal

pub returns-clause-bounded : goal.returns-clause-bounded
returns-clause-bounded g c = λ whole. omega (arith, c.levels.ensures, count_bounds_height (shape_of c.args.link.now) whole)
