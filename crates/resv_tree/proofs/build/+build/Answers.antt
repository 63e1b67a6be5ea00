use Rattle.std.proofs.Common.{◌<◌, arith}
use Rattle.resv_tree.specs.Shape.{shape, shape_of}
use Rattle.resv_tree.proofs.BuildLemmas.{built_level, built_parts}
use Rattle.resv_tree.proofs.build.+build.Goals as goal

pub fork-requires-clause-level : goal.fork-requires-clause-level
fork-requires-clause-level g t c =
    built_level (shape_of c.in_ok-left.left) (shape_of c.in_ok-right.right) _ _ _ _ c.args.count c.in_ok-left.ensures
    c.in_ok-right.ensures

pub returns : goal.returns
returns g t c =
    let some : 0 < c.args.count = omega (arith, c.if-count-eq0.false) in
    built_parts (shape_of c.in_ok-left.left) (shape_of c.in_ok-right.right) _ _ _ _ c.args.count c.in_ok-left.ensures
    c.in_ok-right.ensures (shape c.fork.result.value) _ _ some c.next.ensures.given c.next.ensures.fewer c.in_ok-top.ensures
    c.fork.ensures.made c.fork.ensures.whole
