-- What is on air of two worked transmissions, by computation, and what the law of counting says of them and of every list.
use Rattle.std.proofs.Common.{ℕ, ◌+◌, ◌≡◌, List, [], ◌∷◌, refl, arith}
use Rattle.radio_airtime.specs.TimeOnAir.{airtime_of}
use Rattle.radio_airtime.specs.declared.data_rate.DataRate.TheVariants.{Dr0, Dr5}
use Rattle.radio_bands.specs.Band.{band_of}
use Rattle.radio_bands.specs.declared.band.Band.{Band}
use Rattle.radio_bands.specs.declared.band.Band.TheVariants.{K, M}
use Rattle.resv_list.specs.declared.reservation.Reservation.{Reservation}
use Rattle.resv_list.specs.OnAir.{on_air, counted, OnAirIsCounted}

-- 12 bytes at DR5 on a channel of sub-band M, from 1,000 us on and before 42,216 us
unfoldable pub short : Reservation
unfolding airtime_of band_of
short = record {
  number = 1;
  start = 1000;
  freq_hz = 868100000;
  rate = Dr5;
  len = 12;
  fit = record { banded = refl; sized = omega arith; timely = omega arith };
}

-- 12 bytes at DR0 on a channel of sub-band K, from 50,000 us on and before 1,041,232 us
unfoldable pub long : Reservation
unfolding airtime_of band_of
long = record {
  number = 2;
  start = 50000;
  freq_hz = 863500000;
  rate = Dr0;
  len = 12;
  fit = record { banded = refl; sized = omega arith; timely = omega arith };
}

abbrev pub both : List Reservation
both = short ∷ long ∷ []

whole : on_air M 0 1000000 both ≡ 41216
unfolding on_air airtime_of short long
whole = refl

reaches_in : on_air M 20000 1000000 both ≡ 22216
unfolding on_air airtime_of short long
reaches_in = refl

reaches_out : on_air M 0 20000 both ≡ 19000
unfolding on_air airtime_of short long
reaches_out = refl

reaches_over_both_ends : on_air M 20000 20010 both ≡ 10
unfolding on_air airtime_of short long
reaches_over_both_ends = refl

lies_before : on_air M 42216 50000 both ≡ 0
unfolding on_air airtime_of short long
lies_before = refl

of_the_other_band : on_air K 0 50001 both ≡ 1
unfolding on_air airtime_of short long
of_the_other_band = refl

-- the last two microseconds of the first, and two behind it
pub last_microseconds : OnAirIsCounted → on_air M 42214 42218 both ≡ 2
unfolding airtime_of short long
last_microseconds law = law M 42214 4 both

pub counted_anywhere : OnAirIsCounted → (band : Band) (from n : ℕ) (l : List Reservation)
    → on_air band from (from + n) l ≡ counted band from n l
counted_anywhere law = law
