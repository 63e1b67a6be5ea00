-- What the law on sub-bands says of a worked channel; then what it says of every channel.
use Rattle.std.proofs.Common.{ℕ, ◌≡◌, ◌+◌, ◌/◌, ◌≤◌, arith}
use Rattle.radio_airtime.specs.declared.data_rate.DataRate.{DataRate}
use Rattle.radio_airtime.specs.declared.data_rate.DataRate.TheVariants.{Dr5, Dr6}
use Rattle.radio_airtime.specs.DataRate.{bandwidth_of}
use Rattle.radio_bands.specs.declared.band.Band.{Band}
use Rattle.radio_bands.specs.declared.band.Band.TheVariants.{L, M}
use Rattle.radio_bands.specs.Band.{low_of, high_of, LiesIn, AtMostOneBand}

-- a channel of 125 kHz in sub-band M, and the first of 250 kHz there: they lie in no other
pub in_m : LiesIn 868100000 Dr5 M
in_m = record { from_low = omega arith; to_high = omega arith }

pub in_no_other : AtMostOneBand → (band : Band) → LiesIn 868100000 Dr5 band → M ≡ band
in_no_other law band = law 868100000 Dr5 M band in_m

pub first_of_m : LiesIn 868125000 Dr6 M
first_of_m = record { from_low = omega arith; to_high = omega arith }

pub not_in_the_band_below : AtMostOneBand → LiesIn 868125000 Dr6 L → M ≡ L
not_in_the_band_below law = law 868125000 Dr6 M L first_of_m

-- a channel keeps within the edges of one sub-band at most
module _ (freq_hz : ℕ) (rate : DataRate) where
  abbrev IsWithin : Band → Type 0
  IsWithin band = (low_of band + bandwidth_of rate / 2 ≤ freq_hz) × (freq_hz + bandwidth_of rate / 2 ≤ high_of band)

  pub each_lies_in_one : AtMostOneBand → (b c : Band) → IsWithin b → IsWithin c → b ≡ c
  each_lies_in_one law b c (low, high) (from, to) =
      law freq_hz rate b c (record { from_low = low; to_high = high }) (record { from_low = from; to_high = to })
