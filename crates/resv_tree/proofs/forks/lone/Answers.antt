use Rattle.std.proofs.Common.{arith}
use Rattle.resv_tree.specs.Shape.{entry_of}
use Rattle.resv_tree.proofs.GrowLemmas.{lone_sides}
use Rattle.resv_tree.proofs.QuarterLemmas.{no_quarters}
use Rattle.resv_tree.proofs.SumLemmas.{airtime_in-short}
use Rattle.resv_tree.proofs.forks.lone.Goals as goal

pub grown-requires-clause-fits : goal.grown-requires-clause-fits
grown-requires-clause-fits g c = λ band.
    omega (
      arith,
      no_quarters band,
      c.requires.airtime band,
      airtime_in-short band (entry_of c.args.node.value).reservation,
    )

pub with_sides-requires-clause-sides : goal.with_sides-requires-clause-sides
with_sides-requires-clause-sides g c =
    let kept = c.grown.ensures in
    lone_sides kept.height kept.left_height kept.right_height kept.count
    (λ band. omega (arith, kept.sums band, no_quarters band)) c.requires.airtime

pub with_sides-requires-clause-greatest : goal.with_sides-requires-clause-greatest
with_sides-requires-clause-greatest g c = λ band.
    omega (arith, c.grown.ensures.greatest band, no_quarters band, c.requires.own band)
