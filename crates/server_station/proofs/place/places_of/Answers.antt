use Rattle.std.proofs.Common.{rules}
use Rattle.std.proofs.lemmas.List.Sorted.{IsNonDecreasingBy-from_sort_by_key}
use Rattle.server_station.proofs.Rising.{in-order}
use Rattle.server_station.proofs.place.places_of.Goals as goal

pub returns : goal.returns
returns g c =
    in-order c.args.gateways.now _ _ c.requires.differ c.in_ok-places.ensures c.sort_unstable_by_key.ensures.permutation
    (IsNonDecreasingBy-from_sort_by_key (λ n. n) _ c.sort_unstable_by_key.ensures.sorted (λ a r q k. search rules))
