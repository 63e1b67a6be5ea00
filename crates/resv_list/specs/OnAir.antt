use Rattle.std.specs.Prelude.{ℕ, ◌≡◌, ◌+◌, ◌-◌, min, max, nat_lt, nat_le, ◌&&◌, if◌then◌else◌, List, [], ◌∷◌}
use Rattle.std.proofs.Common.{refl, zero, suc}
use Rattle.radio_bands.specs.declared.band.Band.{Band}
use Rattle.resv_list.specs.declared.reservation.Reservation.{Reservation}
use Rattle.resv_list.specs.Reservations.{end_of, is_in}

-- What a measuring receiver finds on air in a stretch of time (ETSI EN 300 220-1, duty cycle: the cumulative time of transmissions
-- within an observation interval). Of a transmission that begins before the stretch, or ends after it, the part counts
-- that lies within.

-- how long a transmission is on air from `from` on and before `to`, in microseconds
abbrev pub time_within : ℕ → ℕ → Reservation → ℕ
time_within from to r = min (end_of r) to - max r.start from

-- the same of one of the band; 0 of any other
abbrev pub part_within : Band → ℕ → ℕ → Reservation → ℕ
part_within band from to r = if is_in band r then time_within from to r else 0

-- how long transmissions of the band are on air from `from` on and before `to`
unfoldable pub on_air : Band → ℕ → ℕ → List Reservation → ℕ
on_air band from to [] = 0
on_air band from to (r ∷ rs) = part_within band from to r + on_air band from to rs

pub on_air-cons : (band : Band) (from to : ℕ) (r : Reservation) (rs : List Reservation)
    → on_air band from to (r ∷ rs) ≡ part_within band from to r + on_air band from to rs
unfolding on_air
on_air-cons band from to r rs = refl

pub on_air-nil : (band : Band) (from to : ℕ) → on_air band from to [] ≡ 0
unfolding on_air
on_air-nil band from to = refl

-- how many of the band are on air in the microsecond that begins at a moment
abbrev pub senders_at : Band → ℕ → List Reservation → ℕ
senders_at band moment [] = 0
senders_at band moment (r ∷ rs) =
    (if is_in band r && nat_le r.start moment && nat_lt moment (end_of r) then 1 else 0) + senders_at band moment rs

-- the same, counted microsecond by microsecond, n of them from `from` on
abbrev pub counted : Band → ℕ → ℕ → List Reservation → ℕ
counted band from zero l = 0
counted band from (suc n) l = senders_at band from l + counted band (from + 1) n l

-- the law: what is on air is what such a count comes to
abbrev pub OnAirIsCounted : Type 0
OnAirIsCounted = (band : Band) (from n : ℕ) (l : List Reservation) → on_air band from (from + n) l ≡ counted band from n l
