use Rattle.std.proofs.Common.{◌≡◌, ◌<◌}
use Rattle.std.specs.List.{AllWithin}
use Rattle.book_audit.proofs.lost.is_past.Given as goal

abbrev pub invariant-loop-id : goal.invariant-loop-id
invariant-loop-id g l = AllWithin (λ s. s.0 ≡ l.gateway → l.last < s.1.floor → ⊥) l.shelf 0 l.id-index
