use Rattle.std.proofs.Common.{rules}
use Rattle.std.proofs.lemmas.List.Sorted.{IsNonDecreasingBy-from_sort, IsNonDecreasingBy-from_sort_by_key}
use Rattle.server_workers.proofs.filed.Filed.sort.Goals as goal

pub returns-clause-sorted : goal.returns-clause-sorted
returns-clause-sorted g c =
    record {
      receipts = IsNonDecreasingBy-from_sort_by_key (λ r. r.number) _ c.sort_unstable_by_key.ensures.sorted
          (λ a r q k. search rules);
      outcomes = IsNonDecreasingBy-from_sort_by_key (λ o. o.number) _ c.sort_unstable_by_key-2.ensures.sorted
          (λ a r q k. search rules);
      skipped = IsNonDecreasingBy-from_sort (λ n. n) _ c.sort_unstable.ensures.sorted;
      refused = IsNonDecreasingBy-from_sort_by_key (λ r. r.0) _ c.sort_unstable_by_key-3.ensures.sorted (λ a r q k. search rules);
      strays = IsNonDecreasingBy-from_sort (λ n. n) _ c.sort_unstable-2.ensures.sorted;
    }

pub returns-clause-same : goal.returns-clause-same
returns-clause-same g c =
    record {
      receipts = c.sort_unstable_by_key.ensures.permutation;
      outcomes = c.sort_unstable_by_key-2.ensures.permutation;
      skipped = c.sort_unstable.ensures.permutation;
      refused = c.sort_unstable_by_key-3.ensures.permutation;
      strays = c.sort_unstable-2.ensures.permutation;
    }
