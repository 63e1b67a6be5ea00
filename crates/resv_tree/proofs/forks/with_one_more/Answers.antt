use Rattle.std.proofs.Common.{arith, ap}
use Rattle.resv_tree.specs.Sums.{quarters_in, sum_in}
use Rattle.resv_tree.specs.Shape.{shape_of, kept_of}
use Rattle.resv_tree.proofs.GrowLemmas.{grown_sides, grown_fits}
use Rattle.resv_tree.proofs.HeightLemmas.{height_is_low}
use Rattle.resv_tree.proofs.forks.with_one_more.Goals as goal

pub grown-kept-requires-clause-left : goal.grown-kept-requires-clause-left
grown-kept-requires-clause-left g c =
    let low = height_is_low (shape_of c.args.left) c.requires.left (omega (arith, c.requires.room)) in
    omega (arith, low, c.levels.ensures)

pub grown-kept-requires-clause-right : goal.grown-kept-requires-clause-right
grown-kept-requires-clause-right g c =
    let low = height_is_low (shape_of c.args.right) c.requires.right (omega (arith, c.requires.room)) in
    omega (arith, low, c.levels-2.ensures)

pub grown-kept-requires-clause-fits : goal.grown-kept-requires-clause-fits
grown-kept-requires-clause-fits g c = λ band.
    let all = ap kept_of c.deref.ensures in
    let fits = grown_fits c.requires.left c.requires.right c.requires.lacks c.requires.room band in
    omega (arith, ap (λ k. sum_in k.sums band) all, fits)

pub with_sides-requires-clause-sides : goal.with_sides-requires-clause-sides
with_sides-requires-clause-sides g c =
    let all = ap kept_of c.deref.ensures in
    let kept = c.grown-kept.ensures in
    grown_sides c.requires.left c.requires.right c.requires.level c.requires.lacks
    (omega (arith, kept.height, c.levels.ensures, c.levels-2.ensures)) (omega (arith, kept.left_height, c.levels.ensures))
    (omega (arith, kept.right_height, c.levels-2.ensures)) (omega (arith, kept.count, ap (λ k. k.count) all))
    (λ band. omega (arith, kept.sums band, ap (λ k. sum_in k.sums band) all))

pub with_sides-requires-clause-greatest : goal.with_sides-requires-clause-greatest
with_sides-requires-clause-greatest g c = λ band.
    omega (
      arith,
      c.grown-kept.ensures.greatest band,
      ap (λ n. quarters_in (kept_of n).greatest band) c.deref.ensures,
      c.requires.lacks.greatest band,
    )
