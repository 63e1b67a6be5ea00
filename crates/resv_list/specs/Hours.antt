use Rattle.std.specs.Prelude.{ℕ, ◌+◌, ◌-◌, max, nat_lt, nat_le, ◌&&◌, Bool, List, [], ◌∷◌, Option, map, filter, find}
use Rattle.radio_bands.specs.declared.band.Band.{Band}
use Rattle.radio_bands.specs.Band.{hour}
use Rattle.resv_list.specs.declared.reservation.Reservation.{Reservation}
use Rattle.resv_list.specs.Reservations.{start_of, is_in, spent}

-- The hours that members open: a member's own hour opens at its start, and has the airtime of the member's band that
-- begins in it.

-- from where on an hour that opens reaches a moment
abbrev pub reach : ℕ → ℕ
reach moment = moment + 1 - hour

-- the starts of the members of the band
abbrev pub starts_in : List Reservation → Band → List ℕ
starts_in l band = map start_of (filter (is_in band) l)

-- whether it is one of the band, begins from `from` on and before `to`, and its own hour in the list has more than `most`
abbrev pub is_over : List Reservation → Band → ℕ → ℕ → ℕ → Reservation → Bool
is_over l band from to most r =
    is_in band r && nat_le from r.start && nat_lt r.start to && nat_lt most (spent l band r.start)

-- the first such member, of a list that is by start
abbrev pub first_over : Band → ℕ → ℕ → ℕ → List Reservation → Option Reservation
first_over band from to most l = find (is_over l band from to most) l

-- the greatest of some numbers, and 0 of none
abbrev pub greatest : List ℕ → ℕ
greatest [] = 0
greatest (n ∷ ns) = max n (greatest ns)

-- the most airtime of the band that begins within an hour that opens at the start of a member
abbrev pub most_spent : List Reservation → Band → ℕ
most_spent l band = greatest (map (spent l band) (starts_in l band))
