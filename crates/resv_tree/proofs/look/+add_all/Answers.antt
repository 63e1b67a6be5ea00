use Rattle.std.proofs.Common.{ap, sym, subst, ◌∙◌}
use Rattle.resv_tree.specs.Shape.{shape, shape_of}
use Rattle.resv_tree.specs.Parts.{IsSeenAs}
use Rattle.resv_tree.proofs.TreeLemmas.{listed}
use Rattle.resv_tree.proofs.look.+add_all.Goals as goal

pub returns : goal.returns
returns g t c =
    let p = ap shape_of c.in-Some.is ∙ ap shape (sym c.deref.ensures) in
    let seen = subst (λ s. IsSeenAs s (shape_of c.look.result.left.now) c.look.result.entry
    (shape_of c.look.result.right.now)) (sym p) c.look.ensures.seen in
    listed _ _ _ _ c.add_all-2.result seen c.in_ok-add_all.ensures c.in_ok-push.ensures.items c.add_all-2.ensures
