-- Numbers in rising order.
use Rattle.std.specs.Prelude.{ℕ, ◌≡◌, ◌≢◌, ◌==◌, List, map, AllPairs}
use Rattle.std.specs.Cmp.{unsigned_Decides}
use Rattle.std.specs.List.Sorted.{IsPermutation, IsNonDecreasing, IsStrictlyIncreasing}
use Rattle.std.proofs.Common.{arith, subst}
use Rattle.std.proofs.lemmas.List.{get_or-map, length-map}
use Rattle.std.proofs.lemmas.Bool.Decides.{nat_tests}
use Rattle.std.proofs.lemmas.List.Kept.{AllPairs-from_increasing}
use Rattle.std.proofs.lemmas.Map.Keys.{IsDistinct-IsPermutation, IsStrictlyIncreasing-from_distinct}
use Rattle.std.proofs.lemmas.Map.Made.{IsDistinct-from_AllPairs}
use Rattle.server_desk.specs.declared.setting.GatewaySetting.{GatewaySetting}
use Rattle.server_station.specs.Stations.{AreInOrder}

-- rising numbers differ
pub rising-differ : (ids : List ℕ) → IsStrictlyIncreasing ids → AllPairs (λ a b. a ≢ b) ids
rising-differ ids rising i j d h l e = omega (arith, AllPairs-from_increasing ids rising i j d h l, e)

flips : (x y : ℕ) → (x == y) ≡ (y == x)
flips x y = grind (arith, nat_tests)

-- numbers that differ, in an order in which they don't fall
sorted-rise : (ids sorted : List ℕ) → AllPairs (λ a b. a ≢ b) ids → IsPermutation ids sorted → IsNonDecreasing sorted
    → IsStrictlyIncreasing sorted
sorted-rise ids sorted differ p s =
    let distinct = IsDistinct-from_AllPairs unsigned_Decides ids differ in
    IsStrictlyIncreasing-from_distinct sorted s (IsDistinct-IsPermutation (λ x y. x == y) flips ids sorted p distinct)

ids-differ : (gateways : List GatewaySetting) → AllPairs (λ g h. g.id ≢ h.id) gateways
    → AllPairs (λ a b. a ≢ b) (map (λ (g : GatewaySetting). g.id) gateways)
ids-differ gateways differ i j d h l =
    let len = length-map gateways (λ (g : GatewaySetting). g.id) in
    let e : GatewaySetting = record { id = 0; cap = 0; gap = 0 } in
    let at_i = get_or-map (λ (g : GatewaySetting). g.id) gateways i e d (omega (arith, len)) in
    let at_j = get_or-map (λ (g : GatewaySetting). g.id) gateways j e d (omega (arith, len)) in
    rw (at_i, at_j) (differ i j e h (omega (arith, len)))

-- the numbers of gateways that differ, sorted
pub in-order : (gateways : List GatewaySetting) (ids sorted : List ℕ) → AllPairs (λ g h. g.id ≢ h.id) gateways
    → ids ≡ map (λ (g : GatewaySetting). g.id) gateways → IsPermutation ids sorted → IsNonDecreasing sorted
    → AreInOrder gateways sorted
in-order gateways ids sorted differ e p s =
    let same = subst (λ l. IsPermutation l sorted) e p in
    record {
      rising = sorted-rise (map (λ (g : GatewaySetting). g.id) gateways) sorted (ids-differ gateways differ) same s;
      same = same;
    }
