use Rattle.std.proofs.Common.{arith, ap, ◌∙◌}
use Rattle.resv_list.specs.Reservations.{airtime_in}
use Rattle.resv_tree.specs.Shape.{shape_of, entry_of, top_of}
use Rattle.resv_tree.proofs.ShapeLemmas.{count_bounds_sum}
use Rattle.resv_tree.proofs.HeightLemmas.{height_is_low}
use Rattle.resv_tree.proofs.forks.fork.Goals as goal

pub around-requires : goal.around-requires
around-requires g c =
    let left = count_bounds_sum (shape_of c.args.left) in
    let right = count_bounds_sum (shape_of c.args.right) in
    let before = c.kept-before.ensures in
    let behind = c.kept-behind.ensures in
    record {
      fits = λ band. omega (arith, before.sums band, behind.sums band, left band c.requires.left, right band c.requires.right);
    }

pub overflow_add-kept : goal.overflow_add-kept
overflow_add-kept g c =
    let left = height_is_low (shape_of c.args.left) c.requires.left (omega (arith, c.requires.room)) in
    let right = height_is_low (shape_of c.args.right) c.requires.right (omega (arith, c.requires.room)) in
    omega (arith, left, right, c.kept-before.ensures.height, c.kept-behind.ensures.height, c.max.ensures)

pub with_sides-requires-clause-sides : goal.with_sides-requires-clause-sides
with_sides-requires-clause-sides g c =
    let left = count_bounds_sum (shape_of c.args.left) in
    let right = count_bounds_sum (shape_of c.args.right) in
    let around = c.around.ensures in
    let before = c.kept-before.ensures in
    let behind = c.kept-behind.ensures in
    record {
      level = c.requires.level;
      height = omega (arith, before.height, behind.height, c.max.ensures);
      left_height = before.height;
      right_height = behind.height;
      count = omega (arith, before.count, behind.count);
      sums = λ band. omega (
        arith,
        around.value band,
        ap (λ n. airtime_in band (entry_of n).reservation) c.deref.ensures,
        before.sums band,
        behind.sums band,
      );
      short = λ band. omega (
        arith,
        before.count,
        behind.count,
        around.value band,
        around.short band,
        before.sums band,
        behind.sums band,
        left band c.requires.left,
        right band c.requires.right,
      );
    }

pub with_sides-requires-clause-greatest : goal.with_sides-requires-clause-greatest
with_sides-requires-clause-greatest g c = λ band.
    c.greatest_about.ensures band
    ∙ ap (λ n. top_of (shape_of c.args.left) (entry_of n) (shape_of c.args.right) band) c.deref.ensures
