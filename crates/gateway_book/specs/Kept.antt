use Rattle.std.specs.Prelude.{ℕ, ◌+◌, nat_le, not, Bool, List, filter}
use Rattle.radio_bands.specs.Band.{hour}
use Rattle.resv_list.specs.declared.reservation.Reservation.{Reservation}
use Rattle.resv_list.specs.Reservations.{by_start}

-- What a book keeps, and what it has retired.

-- whether a member is kept at this floor: the hour that it opens ends no earlier
abbrev pub is_kept : ℕ → Reservation → Bool
is_kept floor r = nat_le floor (r.start + hour)

-- the members that a book keeps at this floor, by start
unfoldable pub kept : List Reservation → ℕ → List Reservation
kept l floor = by_start (filter (is_kept floor) l)

-- the members that it doesn't
abbrev pub retired_of : List Reservation → ℕ → List Reservation
retired_of l floor = filter (λ r. not (is_kept floor r)) l
