-- What the law on hours on air says of the worked list, and of every list that a gateway may hold.
use Rattle.std.proofs.Common.{ℕ, ◌≡◌, ◌+◌, ◌≤◌, List, refl}
use Rattle.radio_airtime.specs.TimeOnAir.{airtime_of}
use Rattle.radio_bands.specs.Band.{limit_of}
use Rattle.radio_bands.specs.declared.band.Band.{Band}
use Rattle.radio_bands.specs.declared.band.Band.TheVariants.{M}
use Rattle.resv_list.specs.declared.reservation.Reservation.{Reservation}
use Rattle.resv_list.specs.OnAir.{on_air}
use Rattle.gateway_book.specs.Lawful.{IsLawful}
use Rattle.gateway_book.specs.Laws.{OnAirKeepsLimit}
use Rattle.gateway_book.proofs.WorkedLists.{early, late, last, sent, lawful}

-- the first reaches into this hour and the last one out of it: 22,216 us, 41,216 us and none; then none, 41,216 us and 20,000 us
reaching_in : on_air M 20000 3600020000 sent ≡ 63432
unfolding on_air airtime_of early late last
reaching_in = refl

reaching_out : on_air M 520000 3600520000 sent ≡ 61216
unfolding on_air airtime_of early late last
reaching_out = refl

pub kept_where_one_reaches_in : OnAirKeepsLimit → on_air M 20000 3600020000 sent ≤ 36000000
kept_where_one_reaches_in law = law 1000 sent lawful M 20000

pub kept_anywhere : OnAirKeepsLimit → (gap : ℕ) (l : List Reservation) → IsLawful gap l → (band : Band) (t : ℕ)
    → on_air band t (t + 3600000000) l ≤ limit_of band
kept_anywhere law = law
