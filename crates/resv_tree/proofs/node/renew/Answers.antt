use Rattle.std.proofs.Common.{refl}
use Rattle.resv_tree.specs.declared.node.Node.{out-Node}
use Rattle.resv_tree.specs.Shape.{entry_of, kept_of, left_of, right_of, top_of}
use Rattle.resv_tree.proofs.ShapeLemmas.{out-roll}
use Rattle.resv_tree.proofs.OwingLemmas.{made-node, whole-node, anew, sides_anew}
use Rattle.resv_tree.proofs.StillLemmas.{put_top}
use Rattle.resv_tree.proofs.node.renew.Goals as goal

pub returns-clause-made : goal.returns-clause-made
returns-clause-made g c =
    let n = c.args.node.now in
    let greatest = c.put.new.self in
    let put = simp out-roll at c.put.ensures in
    let top = put_top (kept_of n).greatest greatest c.args.band _ (top_of (left_of n) (entry_of n) (right_of n)) put
    c.top_in-greatest.ensures c.requires.others in
    simp out-roll (made-node (out-Node _ n).left (out-Node _ n).right (entry_of n) (entry_of n) (anew (kept_of n) greatest) refl
    c.requires.left c.requires.right (sides_anew c.requires.sides greatest) top)

pub returns-clause-whole : goal.returns-clause-whole
returns-clause-whole g c =
    let n = c.args.node.now in
    let greatest = c.put.new.self in
    let put = simp out-roll at c.put.ensures in
    let top = put_top (kept_of n).greatest greatest c.args.band _ (top_of (left_of n) (entry_of n) (right_of n)) put
    c.top_in-greatest.ensures c.requires.others in
    simp out-roll (whole-node (out-Node _ n).left (out-Node _ n).right (entry_of n) (anew (kept_of n) greatest) c.requires.left
    c.requires.right (sides_anew c.requires.sides greatest) top)
