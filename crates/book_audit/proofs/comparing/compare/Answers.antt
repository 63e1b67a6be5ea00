use Rattle.std.proofs.Common.{refl, sym, subst, ◌∙◌}
use Rattle.std.specs.List.Sorted.{IsNonDecreasingBy}
use Rattle.book_audit.specs.Held.{AllDiffer}
use Rattle.book_audit.proofs.HeldLemmas.{doubled_kept, once_differ}
use Rattle.book_audit.proofs.comparing.compare.Goals as goal

pub returns-in-Err-clause-cause : goal.returns-in-Err-clause-cause
returns-in-Err-clause-cause g c = c.in_default.ensures.together refl

pub returns-in_default-held_by_number-clause-cause : goal.returns-in_default-held_by_number-clause-cause
returns-in_default-held_by_number-clause-cause g c = c.in_default.ensures.together refl

pub first_doubled-requires : goal.first_doubled-requires
first_doubled-requires g c =
    subst (IsNonDecreasingBy (λ h. h.1.number)) (sym c.deref.ensures.value) c.in-Ok.ensures.rising

pub returns-in-Some-first_doubled-clause-cause : goal.returns-in-Some-first_doubled-clause-cause
returns-in-Some-first_doubled-clause-cause g c = (
  c.in_default.ensures.together refl,
  doubled_kept c.args.shelf.now _ _ _ _ _ c.in-Ok.ensures.same c.deref.ensures.value
      c.in-Some-first_doubled.ensures.twice,
)

pub returns-clause-once : goal.returns-clause-once
returns-clause-once g c =
    once_differ c.args.shelf.now _ _ c.in-Ok.ensures.same c.in-Ok.ensures.rising c.deref.ensures.value
    (c.in_default-first_doubled.ensures.none refl)

pub returns-clause-equal : goal.returns-clause-equal
returns-clause-equal g c = c.in_default.ensures.equal refl

pub returns-clause-sum : goal.returns-clause-sum
returns-clause-sum g c = c.in_default.ensures.sum refl

pub first_lost-requires-clause-rising : goal.first_lost-requires-clause-rising
first_lost-requires-clause-rising g c =
    subst (IsNonDecreasingBy (λ h. h.1.number)) (sym c.deref-2.ensures.value) c.in-Ok.ensures.rising

pub first_lost-requires-clause-differ : goal.first_lost-requires-clause-differ
first_lost-requires-clause-differ g c =
    subst AllDiffer (c.deref.ensures.value ∙ sym c.deref-2.ensures.value) (c.in_default-first_doubled.ensures.none refl)

pub returns-in-Some-first_lost-clause-cause : goal.returns-in-Some-first_lost-clause-cause
returns-in-Some-first_lost-clause-cause g c = (
  c.in_default.ensures.together refl,
  once_differ c.args.shelf.now _ _ c.in-Ok.ensures.same c.in-Ok.ensures.rising c.deref.ensures.value
      (c.in_default-first_doubled.ensures.none refl),
  c.in-Some-first_lost.ensures,
)

pub returns-in-Ok-true-clause-equal : goal.returns-in-Ok-true-clause-equal
returns-in-Ok-true-clause-equal g c = c.in_default.ensures.equal refl

pub returns-in-Ok-true-clause-sum : goal.returns-in-Ok-true-clause-sum
returns-in-Ok-true-clause-sum g c = c.in_default.ensures.sum refl

pub returns-in-Ok-true-clause-once : goal.returns-in-Ok-true-clause-once
returns-in-Ok-true-clause-once g c = c.in-Ok-true.ensures.once c.in-Ok-true.field-0-test

pub returns-in-Ok-true-clause-accounted : goal.returns-in-Ok-true-clause-accounted
returns-in-Ok-true-clause-accounted g c = c.in-Ok-true.ensures.accounted c.in-Ok-true.field-0-test
