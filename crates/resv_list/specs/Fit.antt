use Rattle.std.specs.Prelude.{ℕ, ◌+◌, ◌^◌, ◌≤◌, IsSome}
use Rattle.radio_airtime.specs.declared.data_rate.DataRate.{DataRate}
use Rattle.radio_airtime.specs.DataRate.{max_phy_of}
use Rattle.radio_airtime.specs.TimeOnAir.{airtime_of}
use Rattle.radio_bands.specs.Band.{band_of}

-- when a transmission that begins at `start` ends
abbrev pub end_at : ℕ → DataRate → ℕ → ℕ
end_at start rate len = start + airtime_of rate len

-- the end of time
abbrev pub last_end : ℕ
last_end = 2 ^ 61

-- a transmission that may be reserved: its channel lies in a sub-band, its PHYPayload is one of its
-- data rate, and it ends by the end of time
pub record IsFit (start freq_hz : ℕ) (rate : DataRate) (len : ℕ) : Type 0 where
  pub banded : IsSome (band_of freq_hz rate)
  pub sized : len ≤ max_phy_of rate
  pub timely : end_at start rate len ≤ last_end
