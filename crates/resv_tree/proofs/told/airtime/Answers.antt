use Rattle.std.proofs.Common.{◌∙◌}
use Rattle.resv_tree.specs.Shape.{shape_of}
use Rattle.resv_tree.proofs.SumLemmas.{sum_of_all-net}
use Rattle.resv_tree.proofs.told.airtime.Goals as goal

pub returns : goal.returns
returns g c = c.total.ensures ∙ sum_of_all-net c.sums.result (shape_of c.args.link.now) c.requires.whole c.sums.ensures
