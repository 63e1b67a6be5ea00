use Rattle.std.proofs.Common.{rules, arith, ap, sym, subst, ◌∙◌, ◌+◌, ◌-◌}
use Rattle.resv_tree.specs.Shape.{shape, shape_of}
use Rattle.resv_tree.specs.Parts.{IsOwing}
use Rattle.resv_tree.proofs.FirstLemmas.{idle_none, low_none, owing_left, owing_right, over_right, over_left, over_found}
use Rattle.resv_tree.proofs.FirstLemmas.{over_here, over_later}
use Rattle.resv_tree.proofs.look.+first_over.Goals as goal

pub first_over-requires : goal.first_over-requires
first_over-requires g t c κs within =
    let p = ap shape_of c.in-Some.is ∙ ap shape (sym c.deref.ensures) in
    let owing = subst (λ s. IsOwing s (shape_of c.look.result.left.now) c.look.result.entry
    (shape_of c.look.result.right.now)) (sym p) c.look.ensures.owing in
    (search (rules, owing.height, c.decreases), (within, (owing.right, owing_right owing c.requires.by_key)))

pub returns-then-entry-from : goal.returns-then-entry-from
returns-then-entry-from g t c =
    let p = ap shape_of c.in-Some.is ∙ ap shape (sym c.deref.ensures) in
    let owing = subst (λ s. IsOwing s (shape_of c.look.result.left.now) c.look.result.entry
    (shape_of c.look.result.right.now)) (sym p) c.look.ensures.owing in
    let below = c.moved-below.ensures ∙ (λ i. c.args.least + c.top_in.ensures i - c.greatest_in-greatest.ensures i) in
    c.first_over.ensures
    ∙ over_right c.args.band c.args.from c.args.to c.args.least _ owing c.requires.by_key below c.if-entry-from.true

pub first_over-requires-then-to-entry : goal.first_over-requires-then-to-entry
first_over-requires-then-to-entry g t c κs within =
    let p = ap shape_of c.in-Some.is ∙ ap shape (sym c.deref.ensures) in
    let owing = subst (λ s. IsOwing s (shape_of c.look.result.left.now) c.look.result.entry
    (shape_of c.look.result.right.now)) (sym p) c.look.ensures.owing in
    (search (rules, owing.height, c.decreases), (within, (owing.left, owing_left owing c.requires.by_key)))

pub returns-then-to-entry : goal.returns-then-to-entry
returns-then-to-entry g t c =
    let p = ap shape_of c.in-Some.is ∙ ap shape (sym c.deref.ensures) in
    let owing = subst (λ s. IsOwing s (shape_of c.look.result.left.now) c.look.result.entry
    (shape_of c.look.result.right.now)) (sym p) c.look.ensures.owing in
    let below = c.moved-below.ensures ∙ (λ i. c.args.least + c.top_in.ensures i - c.greatest_in-greatest.ensures i) in
    c.first_over-then-to-entry.ensures
    ∙ over_left c.args.band c.args.from c.args.to c.args.least _ owing c.requires.by_key below c.if-to-entry.true

pub first_over-requires-2 : goal.first_over-requires-2
first_over-requires-2 g t c κs within =
    let p = ap shape_of c.in-Some.is ∙ ap shape (sym c.deref.ensures) in
    let owing = subst (λ s. IsOwing s (shape_of c.look.result.left.now) c.look.result.entry
    (shape_of c.look.result.right.now)) (sym p) c.look.ensures.owing in
    (search (rules, owing.height, c.decreases), (within, (owing.left, owing_left owing c.requires.by_key)))

pub returns-in-Some-first_over : goal.returns-in-Some-first_over
returns-in-Some-first_over g t c =
    let p = ap shape_of c.in-Some.is ∙ ap shape (sym c.deref.ensures) in
    let owing = subst (λ s. IsOwing s (shape_of c.look.result.left.now) c.look.result.entry
    (shape_of c.look.result.right.now)) (sym p) c.look.ensures.owing in
    let below = c.moved-below.ensures ∙ (λ i. c.args.least + c.top_in.ensures i - c.greatest_in-greatest.ensures i) in
    over_found c.args.band c.args.from c.args.to c.args.least _ owing c.requires.by_key below _
    (sym c.first_over-2.ensures ∙ c.in-Some-first_over.is)

pub returns-then-has_own : goal.returns-then-has_own
returns-then-has_own g t c =
    let p = ap shape_of c.in-Some.is ∙ ap shape (sym c.deref.ensures) in
    let owing = subst (λ s. IsOwing s (shape_of c.look.result.left.now) c.look.result.entry
    (shape_of c.look.result.right.now)) (sym p) c.look.ensures.owing in
    let below = c.moved-below.ensures ∙ (λ i. c.args.least + c.top_in.ensures i - c.greatest_in-greatest.ensures i) in
    over_here c.args.band c.args.from c.args.to c.args.least _ owing c.requires.by_key below
    (omega (arith, c.if-entry-from.false)) (omega (arith, c.if-to-entry.false))
    (sym c.first_over-2.ensures ∙ c.in_default-first_over.is) (sym c.has_own.ensures ∙ c.if-has_own.true)

pub first_over-requires-3 : goal.first_over-requires-3
first_over-requires-3 g t c κs within =
    let p = ap shape_of c.in-Some.is ∙ ap shape (sym c.deref.ensures) in
    let owing = subst (λ s. IsOwing s (shape_of c.look.result.left.now) c.look.result.entry
    (shape_of c.look.result.right.now)) (sym p) c.look.ensures.owing in
    (search (rules, owing.height, c.decreases), (within, (owing.right, owing_right owing c.requires.by_key)))

pub returns : goal.returns
returns g t c =
    let p = ap shape_of c.in-Some.is ∙ ap shape (sym c.deref.ensures) in
    let owing = subst (λ s. IsOwing s (shape_of c.look.result.left.now) c.look.result.entry
    (shape_of c.look.result.right.now)) (sym p) c.look.ensures.owing in
    let below = c.moved-below.ensures ∙ (λ i. c.args.least + c.top_in.ensures i - c.greatest_in-greatest.ensures i) in
    c.first_over-3.ensures ∙ over_later c.args.band c.args.from c.args.to c.args.least _ owing c.requires.by_key below
    (omega (arith, c.if-entry-from.false)) (omega (arith, c.if-to-entry.false))
    (sym c.first_over-2.ensures ∙ c.in_default-first_over.is) (sym c.has_own.ensures ∙ c.if-has_own.false)

pub returns-then-sum_in-eq0 : goal.returns-then-sum_in-eq0
returns-then-sum_in-eq0 g t c =
    idle_none (shape_of c.args.link.now) c.args.band c.args.from c.args.to c.args.least c.requires.whole
    (sym c.sum_in.ensures ∙ c.if-sum_in-eq0.true)

pub returns-then-greatest-least : goal.returns-then-greatest-least
returns-then-greatest-least g t c =
    low_none (shape_of c.args.link.now) c.args.band c.args.from c.args.to c.args.least c.requires.whole
    (omega (arith, c.greatest_in-greatest.ensures, c.if-greatest-least.true))
