use Rattle.std.specs.Prelude.{ℕ, ◌-◌, List, Option, map, filter, unwrap_or}
use Rattle.radio_bands.specs.Band.{hour}
use Rattle.resv_list.specs.declared.reservation.Reservation.{Reservation}
use Rattle.resv_list.specs.Hours.{greatest}
use Rattle.resv_list.specs.Reservations.{end_of}
use Rattle.gateway_book.specs.Duty.{is_within_hour}

-- The hour that a picture shows.

-- where the hour opens that ends with the last transmission, and 0 where none ends an hour behind the beginning
abbrev pub latest_hour : List Reservation → ℕ
latest_hour l = greatest (map end_of l) - hour

-- where the hour opens: at the moment that is asked for, or it is the latest
abbrev pub opening_of : Option ℕ → List Reservation → ℕ
opening_of from l = unwrap_or from (latest_hour l)

-- the transmissions that begin in the hour that opens at t
abbrev pub members_of_hour : List Reservation → ℕ → List Reservation
members_of_hour l t = filter (λ r. is_within_hour r.start t) l
