use Rattle.std.specs.Prelude.{◌≡◌, ℕ, ◌+◌, ◌*◌, ◌/◌, ◌≤◌, nat_le, Bool, ◌&&◌, List, [], ◌∷◌, find, Option}
use Rattle.radio_airtime.specs.declared.data_rate.DataRate.{DataRate}
use Rattle.radio_airtime.specs.DataRate.{bandwidth_of}
use Rattle.radio_bands.specs.declared.band.Band.{Band}
use Rattle.radio_bands.specs.declared.band.Band.TheVariants.{K, L, M, N, P, Q}

-- The sub-bands of EU868 and their duty cycles (ETSI EN 300 220-2, annex B, as this project's profile
-- has them).

-- the sub-bands, in the order of their frequencies
abbrev pub bands : List Band
bands = K ∷ L ∷ M ∷ N ∷ P ∷ Q ∷ []

-- the lower edge in Hz
abbrev pub low_of : Band → ℕ
low_of K = 863000000
low_of L = 865000000
low_of M = 868000000
low_of N = 868700000
low_of P = 869400000
low_of Q = 869700000

-- the upper edge in Hz
abbrev pub high_of : Band → ℕ
high_of K = 865000000
high_of L = 868000000
high_of M = 868600000
high_of N = 869200000
high_of P = 869650000
high_of Q = 870000000

-- an hour in microseconds
abbrev pub hour : ℕ
hour = 3600000000

-- the duty cycle, in thousandths of an hour
abbrev pub duty_of : Band → ℕ
duty_of K = 1
duty_of L = 10
duty_of M = 10
duty_of N = 1
duty_of P = 100
duty_of Q = 10

-- how long a gateway may send in the band within any hour, in microseconds
abbrev pub limit_of : Band → ℕ
limit_of band = duty_of band * hour / 1000

-- a channel, half its bandwidth to either side of its centre, keeps within the band's edges
pub record LiesIn (freq_hz : ℕ) (rate : DataRate) (band : Band) : Type 0 where
  pub from_low : low_of band + bandwidth_of rate / 2 ≤ freq_hz
  pub to_high : freq_hz + bandwidth_of rate / 2 ≤ high_of band

-- the same as a test
abbrev pub lies_in : ℕ → DataRate → Band → Bool
lies_in freq_hz rate band =
    nat_le (low_of band + bandwidth_of rate / 2) freq_hz && nat_le (freq_hz + bandwidth_of rate / 2) (high_of band)

-- the band that a channel lies in
unfoldable pub band_of : ℕ → DataRate → Option Band
band_of freq_hz rate = find (lies_in freq_hz rate) bands

-- no channel lies in two bands
abbrev pub AtMostOneBand : Type 0
AtMostOneBand = (freq_hz : ℕ) (rate : DataRate) (b c : Band) → LiesIn freq_hz rate b → LiesIn freq_hz rate c → b ≡ c
