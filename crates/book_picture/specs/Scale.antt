use Rattle.std.specs.Prelude.{ℕ, ◌-◌, ◌*◌, ◌/◌, max, Option, Some, None}
use Rattle.radio_bands.specs.declared.band.Band.{Band}
use Rattle.radio_bands.specs.declared.band.Band.TheVariants.{K, L, M, N, P, Q}
use Rattle.radio_bands.specs.Band.{limit_of}
use Rattle.resv_list.specs.declared.reservation.Reservation.{Reservation}
use Rattle.resv_list.specs.Reservations.{airtime_us}

-- Where things stand in a picture, in its own units: 1,000,000 across are the hour, or a sub-band's limit, and 100,000 down are a
-- row. What is divided is cut.

-- which row is a sub-band's, from 0 on
abbrev pub row_of : Band → ℕ
row_of K = 0
row_of L = 1
row_of M = 2
row_of N = 3
row_of P = 4
row_of Q = 5

-- how far down it begins
abbrev pub top_of : Band → ℕ
top_of band = row_of band * 100000

-- the same of the sub-band that a transmission's channel lies in
abbrev pub top_in : Option Band → ℕ
top_in None = 0
top_in (Some band) = top_of band

-- how far across a moment stands in the hour that opens at t
abbrev pub across : ℕ → ℕ → ℕ
across t moment = (moment - t) / 3600

-- how wide a transmission's mark is: as long as it is on air, and wide enough to be seen
abbrev pub width_of : Reservation → ℕ
width_of r = max 1000 (airtime_us r / 3600)

-- how wide the bar of a sub-band is with so much airtime
abbrev pub bar_of : Band → ℕ → ℕ
bar_of band airtime = airtime * 1000000 / limit_of band
