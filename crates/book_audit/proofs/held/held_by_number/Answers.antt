use Rattle.std.proofs.Common.{rules, subst}
use Rattle.std.specs.List.Sorted.{IsPermutation}
use Rattle.std.proofs.lemmas.List.Sorted.{IsNonDecreasingBy-from_sort_by_key}
use Rattle.book_audit.proofs.held.held_by_number.Goals as goal

pub returns-clause-same : goal.returns-clause-same
returns-clause-same g c =
    subst (λ l. IsPermutation l c.sort_unstable_by_key.new.self.items) c.in_ok-held.ensures
    c.sort_unstable_by_key.ensures.permutation

pub returns-clause-rising : goal.returns-clause-rising
returns-clause-rising g c =
    IsNonDecreasingBy-from_sort_by_key (λ h. h.1.number) _ c.sort_unstable_by_key.ensures.sorted (λ a r q k. search rules)
