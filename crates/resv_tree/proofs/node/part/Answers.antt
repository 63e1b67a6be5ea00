use Rattle.std.proofs.Common.{ap, ◌∙◌}
use Rattle.resv_tree.specs.declared.node.Node.{out-Node}
use Rattle.resv_tree.specs.Shape.{entry_of, kept_of}
use Rattle.resv_tree.proofs.ShapeLemmas.{shape-taken, entry_of-roll, kept_of-roll, right_of-roll}
use Rattle.resv_tree.proofs.node.part.Goals as goal

pub returns : goal.returns
returns g c =
    let first = c.deref_mut.ensures.value in
    let second = c.deref_mut-2.ensures.value in
    let left = c.take-left.ensures.value ∙ ap (λ n. (out-Node _ n).left) first in
    let entry = entry_of-roll _ _ _ _ ∙ ap entry_of second ∙ entry_of-roll _ _ _ _ ∙ ap entry_of first in
    let right = c.take-right.ensures.value ∙ ap (λ n. (out-Node _ n).right) second ∙ right_of-roll _ _ _ _
    ∙ ap (λ n. (out-Node _ n).right) first in
    let kept = kept_of-roll _ _ _ _ ∙ ap kept_of second ∙ kept_of-roll _ _ _ _ ∙ ap kept_of first in
    shape-taken c.args.top.value c.take-left.result c.take-right.result _ _ left entry right kept
