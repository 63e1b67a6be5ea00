use Rattle.std.proofs.Common.{arith, ap, ◌∙◌}
use Rattle.resv_tree.specs.Sums.{sum_in}
use Rattle.resv_tree.specs.Shape.{shape_of, entry_of, kept_of, top_of}
use Rattle.resv_tree.proofs.SumLemmas.{airtime_in-short}
use Rattle.resv_tree.proofs.ShapeLemmas.{count_bounds_sum}
use Rattle.resv_tree.proofs.HeightLemmas.{height_is_low}
use Rattle.resv_tree.proofs.forks.with_left.Goals as goal

pub exchanged-requires : goal.exchanged-requires
exchanged-requires g c =
    let left = count_bounds_sum (shape_of c.args.left) in
    let right = count_bounds_sum (shape_of c.args.right) in
    let beside = c.requires.beside.sums in
    record {
      covers = λ band. omega (arith, ap (λ n. sum_in (kept_of n).sums band) c.deref-2.ensures, beside band);
      fits = λ band. omega (
        arith,
        ap (λ n. sum_in (kept_of n).sums band) c.deref-2.ensures,
        beside band,
        airtime_in-short band (entry_of c.args.top.value).reservation,
        c.kept-new.ensures.sums band,
        left band c.requires.left,
        right band c.requires.right,
        c.requires.room,
      );
    }

pub overflow_add-kept : goal.overflow_add-kept
overflow_add-kept g c =
    let left = height_is_low (shape_of c.args.left) c.requires.left (omega (arith, c.requires.room)) in
    let right = height_is_low (shape_of c.args.right) c.requires.right (omega (arith, c.requires.room)) in
    let kept = ap (λ n. (kept_of n).right_height) c.deref-2.ensures in
    omega (arith, left, right, kept, c.requires.height, c.kept-new.ensures.height, c.requires.room, c.max.ensures)

pub with_sides-requires-clause-sides : goal.with_sides-requires-clause-sides
with_sides-requires-clause-sides g c =
    let left = count_bounds_sum (shape_of c.args.left) in
    let right = count_bounds_sum (shape_of c.args.right) in
    let beside = c.requires.beside in
    let new = c.kept-new.ensures in
    let all = ap kept_of c.deref-2.ensures in
    record {
      level = c.requires.level;
      height = omega (arith, c.max.ensures, ap (λ k. k.right_height) all ∙ c.requires.height, new.height);
      left_height = new.height;
      right_height = ap (λ k. k.right_height) all ∙ c.requires.height;
      count = omega (arith, ap (λ k. k.count) all, beside.count, new.count);
      sums = λ band. omega (
        arith,
        ap (λ k. sum_in k.sums band) all,
        c.exchanged.ensures band,
        beside.sums band,
        new.sums band,
      );
      short = λ band. omega (
        arith,
        ap (λ k. k.count) all,
        ap (λ k. sum_in k.sums band) all,
        airtime_in-short band (entry_of c.args.top.value).reservation,
        c.exchanged.ensures band,
        beside.count,
        beside.sums band,
        new.count,
        new.sums band,
        left band c.requires.left,
        right band c.requires.right,
      );
    }

pub with_sides-requires-clause-greatest : goal.with_sides-requires-clause-greatest
with_sides-requires-clause-greatest g c = λ band.
    c.greatest_about.ensures band
    ∙ ap (λ n. top_of (shape_of c.args.left) (entry_of n) (shape_of c.args.right) band) c.deref.ensures
