use Rattle.std.specs.Prelude.{ℕ, ◌≡◌, ◌+◌, ◌*◌, ◌/◌, ◌<◌, ◌≤◌, nat_lt, nat_le, Bool, true, false, ◌&&◌, List, [], ◌∷◌, cond}
use Rattle.std.proofs.Common.{refl, arith, sym}
use Rattle.std.proofs.lemmas.Bool.{le-leb, lt-leb, ltb-true, ltb-false}
use Rattle.radio_airtime.specs.declared.data_rate.DataRate.{DataRate}
use Rattle.radio_airtime.specs.declared.data_rate.DataRate.TheVariants.{Dr0, Dr1, Dr2, Dr3, Dr4, Dr5, Dr6}
use Rattle.radio_airtime.specs.DataRate.{max_phy_of}
use Rattle.radio_airtime.specs.TimeOnAir.{airtime_of}
use Rattle.radio_airtime.specs.WholeNumbers.{airtime_of-whole}
use Rattle.radio_bands.specs.declared.band.Band.{Band}
use Rattle.radio_bands.specs.declared.band.Band.TheVariants.{K, L, M, N, P, Q}
use Rattle.resv_list.specs.declared.reservation.Reservation.{Reservation}
use Rattle.resv_list.specs.Begun.{begun-nil, begun-cons}
use Rattle.resv_list.specs.Reservations.{is_in, airtime_us, airtime_in, share, begun}
use Rattle.resv_tree.specs.OwnHours.{own_hour}
use Rattle.resv_tree.specs.Sums.{quarters_in}
use Rattle.resv_tree.proofs.EntryLemmas.{banded, amount_at}

-- Airtime in quarters of the shortest symbol.

-- each time on air is a whole number of them
pub airtime_of-quarters : (rate : DataRate) (len : ℕ) → 128 * (airtime_of rate len / 128) ≡ airtime_of rate len
airtime_of-quarters Dr0 len = omega (arith, airtime_of-whole Dr0 len)
airtime_of-quarters Dr1 len = omega (arith, airtime_of-whole Dr1 len)
airtime_of-quarters Dr2 len = omega (arith, airtime_of-whole Dr2 len)
airtime_of-quarters Dr3 len = omega (arith, airtime_of-whole Dr3 len)
airtime_of-quarters Dr4 len = omega (arith, airtime_of-whole Dr4 len)
airtime_of-quarters Dr5 len = omega (arith, airtime_of-whole Dr5 len)
airtime_of-quarters Dr6 len = omega (arith, airtime_of-whole Dr6 len)

-- and none that a data rate carries has 2^22 microseconds
pub airtime_of-below : (rate : DataRate) (len : ℕ) → len ≤ max_phy_of rate → airtime_of rate len < 4194304
airtime_of-below Dr0 len h = omega (arith, airtime_of-whole Dr0 len)
airtime_of-below Dr1 len h = omega (arith, airtime_of-whole Dr1 len)
airtime_of-below Dr2 len h = omega (arith, airtime_of-whole Dr2 len)
airtime_of-below Dr3 len h = omega (arith, airtime_of-whole Dr3 len)
airtime_of-below Dr4 len h = omega (arith, airtime_of-whole Dr4 len)
airtime_of-below Dr5 len h = omega (arith, airtime_of-whole Dr5 len)
airtime_of-below Dr6 len h = omega (arith, airtime_of-whole Dr6 len)

if_on_air : (t : Bool) (r : Reservation) → 128 * (cond t (airtime_us r) 0 / 128) ≡ cond t (airtime_us r) 0
if_on_air true r = airtime_of-quarters r.rate r.len
if_on_air false r = omega arith

pub airtime_in-whole : (band : Band) (r : Reservation) → 128 * (airtime_in band r / 128) ≡ airtime_in band r
airtime_in-whole band r = if_on_air (is_in band r) r

share_whole : (band : Band) (from to : ℕ) (r : Reservation) → 128 * (share band from to r / 128) ≡ share band from to r
share_whole band from to r = if_on_air (is_in band r && nat_le from r.start && nat_lt r.start to) r

begun_whole : (band : Band) (from to : ℕ) (l : List Reservation) → 128 * (begun band from to l / 128) ≡ begun band from to l
begun_whole band from to [] = omega (arith, begun-nil band from to)
begun_whole band from to (r ∷ rs) =
    omega (arith, begun-cons band from to r rs, share_whole band from to r, begun_whole band from to rs)

pub own_hour_whole : (l : List Reservation) (r : Reservation) → 128 * (own_hour l r / 128) ≡ own_hour l r
own_hour_whole l r =
    let b = banded r in
    omega (
      arith,
      amount_at (λ c. begun c r.start (r.start + 3600000000) l) r b,
      begun_whole b.band r.start (r.start + 3600000000) l,
    )

-- a whole number of them is above a bound where it is above what is whole in the bound
pub above : (most n : ℕ) → nat_lt most (128 * n) ≡ nat_le (most / 128 + 1) n
above most n = by (nat_lt most (128 * n)) refl
  where
    by : (t : Bool) → nat_lt most (128 * n) ≡ t → t ≡ nat_le (most / 128 + 1) n
    by true e = sym (le-leb (most / 128 + 1) n (let h = ltb-true most (128 * n) e in omega (arith, h)))
    by false e = sym (lt-leb (most / 128 + 1) n (let h = ltb-false most (128 * n) e in omega (arith, h)))

-- the sums of no member
pub no_quarters : (band : Band) → quarters_in (record { k = 0; l = 0; m = 0; n = 0; p = 0; q = 0 }) band ≡ 0
no_quarters K = refl
no_quarters L = refl
no_quarters M = refl
no_quarters N = refl
no_quarters P = refl
no_quarters Q = refl
