-- What the laws on ranks and candidates say of two worked copies on two gateways; then what they say of all copies.
use Rattle.std.proofs.Common.{ℕ, ◌≡◌, ◌<◌, ◌⊎◌, inl, List, [], ◌∷◌, length, get_or, AllPairs, Contains, IsPermutation, zero, suc}
use Rattle.std.proofs.Common.{arith}
use Rattle.std.specs.Prelude.{◌<ℤ◌, None, pos, negsuc}
use Rattle.std.proofs.lemmas.List.Sorted.{IsPermutation-insert}
use Rattle.radio_airtime.specs.declared.data_rate.DataRate.TheVariants.{Dr0, Dr5}
use Rattle.uplink_gather.specs.declared.heard.HeardCopy.{HeardCopy}
use Rattle.rx_windows.specs.declared.candidate.Candidate.{Candidate}
use Rattle.rx_windows.specs.declared.plan.Plan.{Plan}
use Rattle.rx_windows.specs.Laws.{IsRanking, IsWindowOf, OneRanking, OnGatewaysThatHeard}
use Rattle.rx_windows.specs.Windows.{rx1_of, rx2_of, candidates_of}

abbrev near : HeardCopy
near = record { gateway = 7; at = 5000000; freq_hz = 868100000; rate = Dr5; snr = pos 55; rssi = negsuc 89 }

abbrev far : HeardCopy
far = record { gateway = 3; at = 9000000; freq_hz = 868100000; rate = Dr5; snr = negsuc 49; rssi = negsuc 109 }

-- whatever ranks them, the better heard comes first
pub near_is_first : OneRanking → (ranks : List HeardCopy) → IsRanking (far ∷ near ∷ []) ranks → ranks ≡ near ∷ far ∷ []
near_is_first law ranks is = law (far ∷ near ∷ []) ranks (near ∷ far ∷ []) is (record {
  permutation = IsPermutation-insert (near ∷ []) 1 far;
  each_before_later = ordered;
})
  where
    ordered : AllPairs (λ c e. (e.snr <ℤ c.snr) ⊎ (((c.snr ≡ e.snr) × (e.rssi <ℤ c.rssi))
        ⊎ ((c.snr ≡ e.snr) × (c.rssi ≡ e.rssi) × (c.gateway < e.gateway)))) (near ∷ far ∷ [])
    ordered zero (suc zero) d h g = inl (omega arith)
    ordered zero (suc (suc j)) d h g = absurd (omega (arith, g))
    ordered zero zero d h g = absurd (omega (arith, h))
    ordered (suc i) zero d h g = absurd (omega (arith, h))
    ordered (suc i) (suc j) d h g = absurd (omega (arith, h, g))

abbrev plan : Plan
plan = record { delay = 1; offset = 0; rx2_freq = 869525000; rx2_rate = Dr0; payload = None }

-- RX2 of the second copy lies on the gateway that heard it
pub fourth_is_of_a_copy : OnGatewaysThatHeard → IsWindowOf plan (near ∷ far ∷ []) (rx2_of plan far)
unfolding candidates_of
fourth_is_of_a_copy law = law plan (near ∷ far ∷ []) 3 (rx2_of plan far) (omega arith)

-- Of all copies.

abbrev IsAhead : HeardCopy → HeardCopy → Type 0
IsAhead c e =
    (e.snr <ℤ c.snr)
    ⊎ (((c.snr ≡ e.snr) × (e.rssi <ℤ c.rssi)) ⊎ ((c.snr ≡ e.snr) × (c.rssi ≡ e.rssi) × (c.gateway < e.gateway)))

pub each_has_one_ranking : OneRanking → (copies a b : List HeardCopy) → IsPermutation copies a → AllPairs IsAhead a
    → IsPermutation copies b → AllPairs IsAhead b → a ≡ b
each_has_one_ranking law copies a b p e q f =
    law copies a b (record { permutation = p; each_before_later = e }) (record { permutation = q; each_before_later = f })

module _ (plan : Plan) (copies : List HeardCopy) (i : ℕ) (d : Candidate) where
  abbrev candidate : Candidate
  candidate = get_or (candidates_of copies plan) i d

  pub each_lies_where_it_was_heard : OnGatewaysThatHeard → i < length (candidates_of copies plan)
      → (copy : HeardCopy) × Contains copies copy × (candidate.gateway ≡ copy.gateway)
      × ((candidate ≡ rx1_of plan copy) ⊎ (candidate ≡ rx2_of plan copy))
  each_lies_where_it_was_heard law h = let is = law plan copies i d h in (is.copy, is.heard, is.gateway, is.window)
