use Rattle.resv_tree.specs.Shape.{entry_of}
use Rattle.resv_tree.proofs.GrowLemmas.{lacks_left, lacks_right}
use Rattle.resv_tree.proofs.change.+insert.Goals as goal

pub grow-requires-clause-lacks : goal.grow-requires-clause-lacks
grow-requires-clause-lacks g t c =
    let opened = c.open-left.ensures in
    let right = c.insert-right.ensures in
    lacks_right (entry_of c.args.node.value) opened.made opened.kept opened.greatest c.requires.airtime c.requires.own right.whole
    right.entries right.count

pub grow-requires-else-entry-clause-lacks : goal.grow-requires-else-entry-clause-lacks
grow-requires-else-entry-clause-lacks g t c =
    let opened = c.open-left.ensures in
    let left = c.insert-left.ensures in
    lacks_left (entry_of c.args.node.value) opened.made opened.kept opened.greatest c.requires.airtime c.requires.own left.whole
    left.entries left.count
