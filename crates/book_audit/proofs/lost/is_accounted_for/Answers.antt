use Rattle.std.proofs.Common.{inl, inr, refl}
use Rattle.book_audit.proofs.HeldLemmas.{accounted_held, accounted_past}
use Rattle.book_audit.proofs.LostLemmas.{accounted_cases}
use Rattle.book_audit.proofs.lost.is_accounted_for.Goals as goal

pub returns-then-is_held : goal.returns-then-is_held
returns-then-is_held g c = (λ t. accounted_held _ _ _ _ c.requires.same (c.is_held.ensures.0 c.if-is_held.true), λ a. refl)

pub returns : goal.returns
returns g c = (
  λ past. accounted_past _ _ _ (c.is_past.ensures.0 past),
  λ accounted. elim (accounted_cases _ _ _ _ c.requires.same accounted) [
    | inl kept ↦ let t = c.is_held.ensures.1 kept in absurd (cc (t, c.if-is_held.false))
    | inr past ↦ c.is_past.ensures.1 past
  ],
)
