use Rattle.std.proofs.Common.{rules, subst}
use Rattle.std.specs.List.Sorted.{IsPermutation}
use Rattle.std.proofs.lemmas.List.Sorted.{IsNonDecreasingBy-from_sort_by_key}
use Rattle.serve_turns.proofs.by_gateway.forwarders_of.Goals as goal

pub returns : goal.returns
returns g c =
    record {
      all = subst (λ l. IsPermutation l c.sort_unstable_by_key.new.self.items) c.in_ok-forwarders.ensures
          c.sort_unstable_by_key.ensures.permutation;
      rising = IsNonDecreasingBy-from_sort_by_key (λ f. f.gateway) _ c.sort_unstable_by_key.ensures.sorted (λ a r q k. search rules);
    }
