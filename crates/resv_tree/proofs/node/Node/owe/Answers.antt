use Rattle.std.proofs.Common.{refl}
use Rattle.resv_tree.specs.Shape.{shape}
use Rattle.resv_tree.proofs.ShapeLemmas.{out-roll}
use Rattle.resv_tree.proofs.OwingLemmas.{moved-node}
use Rattle.resv_tree.proofs.node.Node.owe.Goals as goal

pub returns : goal.returns
returns g c =
    let n = c.args.self.now in
    simp out-roll (moved-node n n c.moved-self.result (shape n) _ _ refl refl c.requires.whole c.moved-self.ensures.some
    c.moved-self.ensures.none c.requires.covered)
