use Rattle.std.proofs.Common.{refl, arith, ap, subst, ◌∙◌, ◌≡◌}
use Rattle.resv_tree.specs.Entries.{moved}
use Rattle.resv_tree.specs.Sums.{quarters_in}
use Rattle.resv_tree.specs.Shape.{shape_of, entry_of, kept_of, left_of, right_of, top_of}
use Rattle.resv_tree.specs.Parts.{IsMoved}
use Rattle.resv_tree.proofs.ShapeLemmas.{out-roll, shape-out, whole-out, entry_of-roll, kept_of-roll}
use Rattle.resv_tree.proofs.OwingLemmas.{covered_left, covered_right, own_in_top}
use Rattle.resv_tree.proofs.OwedLemmas.{opened-settled, opened-made, opened-kept}
use Rattle.resv_tree.proofs.node.settle.Goals as goal

pub returns-then-not-node-clause-made : goal.returns-then-not-node-clause-made
returns-then-not-node-clause-made g c =
    opened-settled _ _ _ _ _ (shape-out c.args.node.now) c.requires (cc (c.if-not-node.true))

pub hand-requires-clause-covered : goal.hand-requires-clause-covered
hand-requires-clause-covered g c =
    let n = c.args.node.now in
    simp out-roll (covered_left (left_of n) (right_of n) (entry_of n) (kept_of n) _ _ refl
    (λ i band. c.greatest_about-less.ensures band i) (whole-out n c.requires).2)

pub hand-requires-2-clause-covered : goal.hand-requires-2-clause-covered
hand-requires-2-clause-covered g c =
    let n = c.args.node.now in
    simp out-roll (covered_right (left_of n) (right_of n) (entry_of n) (kept_of n) _ _ refl
    (λ i band. c.greatest_about-less.ensures band i) (whole-out n c.requires).2)

pub moved-node-requires : goal.moved-node-requires
moved-node-requires g c =
    let n = c.args.node.now in
    let h = own_in_top (left_of n) (right_of n) (entry_of n) _ (λ i band. c.greatest_about-less.ensures band i) in
    simp out-roll (record { fits = omega (arith, h) })

pub returns-clause-made : goal.returns-clause-made
returns-clause-made g c =
    let n = c.args.node.now in
    let more = quarters_in (kept_of n).greatest in
    let less : quarters_in c.greatest_about-less.result ≡ top_of (left_of n) (entry_of n) (right_of n) =
    λ i band. c.greatest_about-less.ensures band i in
    let left = subst (IsMoved (shape_of c.hand.new.link) (left_of n) more) less (simp out-roll at c.hand.ensures) in
    let right = subst (IsMoved (shape_of c.hand-2.new.link) (right_of n) more) less (simp out-roll at c.hand-2.ensures) in
    let entry = entry_of-roll c.hand.new.link c.hand-2.new.link c.moved-node.result (kept_of n)
    ∙ (simp out-roll at c.moved-node.ensures) ∙ ap (λ f. moved more f (entry_of n)) less in
    simp out-roll (opened-made _ _ _ _ _ _ _ _ (shape-out n) c.requires left entry right)

pub returns-clause-kept : goal.returns-clause-kept
returns-clause-kept g c =
    let n = c.args.node.now in
    let more = quarters_in (kept_of n).greatest in
    let less : quarters_in c.greatest_about-less.result ≡ top_of (left_of n) (entry_of n) (right_of n) =
    λ i band. c.greatest_about-less.ensures band i in
    let left = subst (IsMoved (shape_of c.hand.new.link) (left_of n) more) less (simp out-roll at c.hand.ensures) in
    let right = subst (IsMoved (shape_of c.hand-2.new.link) (right_of n) more) less (simp out-roll at c.hand-2.ensures) in
    let entry = entry_of-roll c.hand.new.link c.hand-2.new.link c.moved-node.result (kept_of n)
    ∙ (simp out-roll at c.moved-node.ensures) ∙ ap (λ f. moved more f (entry_of n)) less in
    simp out-roll (opened-kept _ _ _ _ _ _ _ _ _ (shape-out n) c.requires left entry right
    (kept_of-roll c.hand.new.link c.hand-2.new.link c.moved-node.result (kept_of n)))

pub returns-clause-same : goal.returns-clause-same
returns-clause-same g c =
    let n = c.args.node.now in
    simp out-roll (kept_of-roll c.hand.new.link c.hand-2.new.link c.moved-node.result (kept_of n))
