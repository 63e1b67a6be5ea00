use Rattle.std.specs.Prelude.{ℕ, ◌+◌, nat_lt, nat_le, ◌&&◌, if◌then◌else◌, Bool, List, [], ◌∷◌, Option, ◌≢◌, All, map, find}
use Rattle.std.specs.Prelude.{filter, not, ◌==◌}
use Rattle.radio_airtime.specs.TimeOnAir.{airtime_of}
use Rattle.radio_bands.specs.declared.band.Band.{Band}
use Rattle.radio_bands.specs.Band.{lies_in, hour}
use Rattle.resv_list.specs.declared.reservation.Reservation.{Reservation}
use Rattle.resv_list.specs.Fit.{end_at}
use Rattle.resv_list.specs.Sorted.{RisesFrom, place_by, sort_by, last_below, first_from, below, rest_from}

-- Words for lists of reservations.

-- when it begins
abbrev pub start_of : Reservation → ℕ
start_of r = r.start

-- how long it is on air
abbrev pub airtime_us : Reservation → ℕ
airtime_us r = airtime_of r.rate r.len

-- when it ends
abbrev pub end_of : Reservation → ℕ
end_of r = end_at r.start r.rate r.len

-- whether its channel lies in the sub-band
abbrev pub is_in : Band → Reservation → Bool
is_in band r = lies_in r.freq_hz r.rate band

-- how long it is on air where its channel lies in the sub-band, and 0 where it doesn't
abbrev pub airtime_in : Band → Reservation → ℕ
airtime_in band r = if is_in band r then airtime_us r else 0

-- the starts rise, and no two are the same
abbrev pub IsByStart : List Reservation → Type 0
IsByStart l = RisesFrom start_of 0 l

-- the list with the reservation in its place
abbrev pub place : Reservation → List Reservation → List Reservation
place r l = place_by start_of r l

-- the list in the order of the starts
abbrev pub by_start : List Reservation → List Reservation
by_start l = sort_by start_of l

-- the member with the greatest start below `start`, of a list that is by start
abbrev pub member_before : ℕ → List Reservation → Option Reservation
member_before start l = last_below start_of start l

-- the member with the least start not below `start`, of a list that is by start
abbrev pub member_from : ℕ → List Reservation → Option Reservation
member_from start l = first_from start_of start l

-- the members that begin before `start`
abbrev pub members_before : ℕ → List Reservation → List Reservation
members_before start l = below start_of start l

-- the members that don't
abbrev pub members_from : ℕ → List Reservation → List Reservation
members_from start l = rest_from start_of start l

-- the member that begins at this very moment
abbrev pub member_at : ℕ → List Reservation → Option Reservation
member_at start l = find (λ r. r.start == start) l

-- the list without what begins at this very moment
abbrev pub without : ℕ → List Reservation → List Reservation
without start l = filter (λ r. not (r.start == start)) l

-- no member has this start
abbrev pub IsFree : ℕ → List Reservation → Type 0
IsFree start l = All (λ s. s ≢ start) (map start_of l)

-- what a member adds to the airtime of the band that begins from `from` on and before `to`:
-- a transmission counts whole where it begins
abbrev pub share : Band → ℕ → ℕ → Reservation → ℕ
share band from to r =
    if is_in band r && nat_le from r.start && nat_lt r.start to then airtime_us r else 0

-- the airtime of the band that begins from `from` on and before `to`
unfoldable pub begun : Band → ℕ → ℕ → List Reservation → ℕ
begun band from to [] = 0
begun band from to (r ∷ rs) = share band from to r + begun band from to rs

-- the airtime of the band that begins within the hour that opens at t
abbrev pub spent : List Reservation → Band → ℕ → ℕ
spent l band t = begun band t (t + hour) l

-- the airtime of all members
unfoldable pub net : List Reservation → ℕ
net [] = 0
net (r ∷ rs) = airtime_us r + net rs
