use Rattle.std.proofs.Common.{ap, sym, subst, ◌∙◌}
use Rattle.resv_tree.specs.declared.entry.Entry.{Entry}
use Rattle.resv_tree.specs.Shape.{shape_of, entry_of, top_of, HasSides}
use Rattle.resv_tree.proofs.OwingLemmas.{made-node, whole-node}
use Rattle.resv_tree.proofs.forks.with_sides.Goals as goal

pub returns-clause-made : goal.returns-clause-made
returns-clause-made g c =
    let same = ap entry_of c.deref.ensures in
    let l = shape_of c.args.left in
    let r = shape_of c.args.right in
    made-node c.args.left c.args.right _ _ _ same c.requires.left c.requires.right
    (subst (λ (e : Entry). HasSides c.args.kept l e r) (sym same) c.requires.sides)
    (λ band. c.requires.greatest band ∙ ap (λ (e : Entry). top_of l e r band) (sym same))

pub returns-clause-whole : goal.returns-clause-whole
returns-clause-whole g c =
    let same = ap entry_of c.deref.ensures in
    let l = shape_of c.args.left in
    let r = shape_of c.args.right in
    whole-node c.args.left c.args.right _ _ c.requires.left c.requires.right
    (subst (λ (e : Entry). HasSides c.args.kept l e r) (sym same) c.requires.sides)
    (λ band. c.requires.greatest band ∙ ap (λ (e : Entry). top_of l e r band) (sym same))
