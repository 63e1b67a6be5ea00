use Rattle.std.proofs.Common.{refl, arith}
use Rattle.resv_tree.specs.Shape.{shape_of}
use Rattle.resv_tree.proofs.BuildLemmas.{built_members, built_by_start, built_hours}
use Rattle.resv_tree.proofs.tree_roster.TreeRosterRoster.filled.Goals as goal

pub invariant_of-result : goal.invariant_of-result
invariant_of-result g c =
    let t = shape_of c.in_ok-root.root in
    let built = c.in_ok-root.ensures in
    record {
      by_start = built_by_start t c.args.members.now _ _ _ c.of-hours.ensures refl built c.requires.by_start;
      whole = built.whole;
      hours = built_hours t c.args.members.now _ _ _ c.of-hours.ensures refl built c.requires.by_start;
      bounded = omega (arith, built.counted, c.requires.room);
    }

pub returns : goal.returns
returns g c =
    built_members (shape_of c.in_ok-root.root) c.args.members.now _ _ _ c.of-hours.ensures refl c.in_ok-root.ensures
