-- Which of the gateways that heard an uplink comes first (this project's profile).
use Rattle.std.specs.Prelude.{◌≡◌, ◌≢◌, ◌<◌, nat_lt, ◌<ℤ◌, int_lt, ◌⊎◌, Bool, true, false, List, [], ◌∷◌, AllPairs, if◌then◌else◌}
use Rattle.uplink_gather.specs.declared.heard.HeardCopy.{HeardCopy}

-- the copies come from different gateways
abbrev pub HaveDistinctGateways : List HeardCopy → Type 0
HaveDistinctGateways copies = AllPairs (λ c e. c.gateway ≢ e.gateway) copies

-- copy c has the greater SNR; or equal SNR and the greater RSSI; or both equal and the smaller gateway
abbrev pub IsBefore : HeardCopy → HeardCopy → Type 0
IsBefore c e =
    (e.snr <ℤ c.snr)
    ⊎ (((c.snr ≡ e.snr) × (e.rssi <ℤ c.rssi)) ⊎ ((c.snr ≡ e.snr) × (c.rssi ≡ e.rssi) × (c.gateway < e.gateway)))

-- the same as a test
abbrev pub is_before : HeardCopy → HeardCopy → Bool
is_before c e =
    if int_lt e.snr c.snr then true
    else if int_lt c.snr e.snr then false
    else if int_lt e.rssi c.rssi then true
    else if int_lt c.rssi e.rssi then false
    else nat_lt c.gateway e.gateway

-- a copy goes before the first of ranked copies that it is before
abbrev pub placed : HeardCopy → List HeardCopy → List HeardCopy
placed c [] = c ∷ []
placed c (e ∷ es) = if is_before c e then c ∷ e ∷ es else e ∷ placed c es

-- the copies by rank
unfoldable pub ranked : List HeardCopy → List HeardCopy
ranked [] = []
ranked (c ∷ cs) = placed c (ranked cs)
