use Rattle.std.specs.Prelude.{ℕ, ◌+◌, nat_lt, nat_le, Bool, ◌&&◌, List, ◌∷◌, Option, Some, filter, if◌then◌else◌}
use Rattle.std.specs.Option.{option_map}
use Rattle.radio_bands.specs.declared.band.Band.{Band}
use Rattle.radio_bands.specs.Band.{hour, limit_of}
use Rattle.resv_list.specs.declared.reservation.Reservation.{Reservation}
use Rattle.resv_list.specs.Reservations.{is_in, spent}
use Rattle.resv_list.specs.Hours.{starts_in, first_over}
use Rattle.gateway_book.specs.declared.duty.FullHour.{FullHour}
use Rattle.gateway_book.specs.Least.{least}

-- Duty cycle over one hour, after this project's profile (the limits are those of ETSI EN 300 220-2, annex B): within any
-- hour, wherever it opens, the airtime of a sub-band that begins in it keeps the band's limit. An hour is half open.

-- whether the moment lies in the hour that opens at t
abbrev pub is_within_hour : ℕ → ℕ → Bool
is_within_hour moment t = nat_le t moment && nat_lt moment (t + hour)

-- whether the hour that opens at t would pass the band's limit with so much more airtime
abbrev pub would_pass : List Reservation → Band → ℕ → ℕ → Bool
would_pass l band airtime t = nat_lt (limit_of band) (spent l band t + airtime)

-- whether the hour that opens at t holds the start, and would pass the limit with what begins there
abbrev pub is_overfull : List Reservation → Band → ℕ → ℕ → ℕ → Bool
is_overfull l band start airtime t = is_within_hour start t && would_pass l band airtime t

-- the least opening of such an hour, among the start and the starts of the members of the band
unfoldable pub full_hour : List Reservation → Band → ℕ → ℕ → Option ℕ
full_hour l band start airtime = least (filter (is_overfull l band start airtime) (start ∷ starts_in l band))

-- whether a member of the band opens an hour that would be overfull
abbrev pub opens_full : List Reservation → Band → ℕ → ℕ → Reservation → Bool
opens_full l band start airtime r = is_in band r && is_overfull l band start airtime r.start

-- the hour that opens at t, with the airtime of the band that begins in it
abbrev pub hour_from : List Reservation → Band → ℕ → FullHour
hour_from l band t = record { from = t; spent = spent l band t }

-- the end of a member's hour that holds the start; or of the first hour that a member opens from the start on, and before
-- an hour has passed
abbrev pub after_full_hour : List Reservation → Band → ℕ → ℕ → Option ℕ
after_full_hour l band start from =
    if nat_lt from start then Some (from + hour) else option_map (λ r. r.start + hour) (first_over band start (start + hour) 0 l)
