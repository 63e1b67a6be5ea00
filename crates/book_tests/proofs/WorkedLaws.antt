-- What the laws on sub-bands and rosters say of worked lists: each tells a fact there, so that none is empty.
use Rattle.std.proofs.Common.{ℕ, ◌≡◌, ◌≤◌, ◌<◌, List, [], ◌∷◌, All, Contains, refl, arith}
use Rattle.radio_airtime.specs.TimeOnAir.{airtime_of}
use Rattle.radio_airtime.specs.declared.data_rate.DataRate.TheVariants.{Dr5}
use Rattle.radio_bands.specs.Band.{band_of, LiesIn, AtMostOneBand}
use Rattle.radio_bands.specs.declared.band.Band.{Band}
use Rattle.radio_bands.specs.declared.band.Band.TheVariants.{M}
use Rattle.resv_list.specs.declared.reservation.Reservation.{Reservation}
use Rattle.resv_list.specs.Nearest.{NearestAreFound}
use Rattle.resv_list.specs.Reservations.{IsByStart}
use Rattle.gateway_book.specs.declared.ask.Ask.{Ask}
use Rattle.gateway_book.specs.Step.{is_fit-IsFit}

-- Two transmissions of 12 bytes at DR5 on a channel of sub-band M, 41,216 us each, a second apart.

abbrev asked_at : ℕ → Ask
asked_at start = record { number = 1; start = start; freq_hz = 868100000; rate = Dr5; len = 12 }

early : Reservation
unfolding airtime_of band_of
early = record { number = 1; start = 0; freq_hz = 868100000; rate = Dr5; len = 12; fit = is_fit-IsFit (asked_at 0) refl }

late : Reservation
unfolding airtime_of band_of
late = record {
  number = 2;
  start = 1000000;
  freq_hz = 868100000;
  rate = Dr5;
  len = 12;
  fit = is_fit-IsFit (asked_at 1000000) refl;
}

abbrev both : List Reservation
both = early ∷ late ∷ []

by_start : IsByStart both
unfolding early late
by_start = (omega arith, (omega arith, tt))

-- Sub-bands: the channel of both lies in M, and in no other.

in_m : LiesIn 868100000 Dr5 M
in_m = record { from_low = omega arith; to_high = omega arith }

in_no_other : AtMostOneBand → (band : Band) → LiesIn 868100000 Dr5 band → M ≡ band
in_no_other law band = law 868100000 Dr5 M band in_m

-- Rosters: half a second stands between the two.

before : NearestAreFound → Contains both early × (0 < 500000) × All (λ s. s.start < 500000 → s.start ≤ 0) both
unfolding early late
before law = (law both 500000 by_start).0

behind : NearestAreFound → Contains both late × (500000 ≤ 1000000) × All (λ s. 500000 ≤ s.start → 1000000 ≤ s.start) both
unfolding early late
behind law = (law both 500000 by_start).1
