use Rattle.std.proofs.Common.{◌≤◌, ◌^◌, ◌∙◌, ap, rules, subst, sym, zip}
use Rattle.std.specs.List.{All}
use Rattle.std.specs.List.Sorted.{IsPermutation}
use Rattle.std.proofs.lemmas.List.Sorted.{All-permutation, IsNonDecreasingBy-from_sort_by_key}
use Rattle.serve_turns.specs.Forwarders.{forwarders_of}
use Rattle.serve_turns.proofs.Paired.{highs_of}
use Rattle.serve_turns.proofs.by_gateway.resumed_forwarders.Goals as goal

pub returns-clause-all : goal.returns-clause-all
returns-clause-all g c =
    record {
      all = subst (λ l. IsPermutation l c.sort_unstable_by_key.new.self.items)
          (c.in_ok-resumed.ensures ∙ ap (λ fs. zip fs c.args.highs.now) (c.deref.ensures.value ∙ c.in_ok-forwarders.ensures))
          c.sort_unstable_by_key.ensures.permutation;
      rising = IsNonDecreasingBy-from_sort_by_key (λ f. f.0.gateway) _ c.sort_unstable_by_key.ensures.sorted
          (λ a r q k. search rules);
    }

pub returns-clause-early : goal.returns-clause-early
returns-clause-early g c =
    All-permutation (λ f. f.1 ≤ 2 ^ 60) _ _ c.sort_unstable_by_key.ensures.permutation
    (subst (λ l. All (λ f. f.1 ≤ 2 ^ 60) l)
    (sym (c.in_ok-resumed.ensures ∙ ap (λ fs. zip fs c.args.highs.now) (c.deref.ensures.value ∙ c.in_ok-forwarders.ensures)))
    (highs_of (λ h. h ≤ 2 ^ 60) (forwarders_of c.args.gateways.now c.args.set.now) c.args.highs.now c.requires))
