use Rattle.std.specs.Prelude.{ℕ, ◌≡◌, ◌+◌, List, [], ◌∷◌, ◌++◌}
use Rattle.std.proofs.Common.{refl, arith}
use Rattle.radio_bands.specs.declared.band.Band.{Band}
use Rattle.resv_list.specs.declared.reservation.Reservation.{Reservation}
use Rattle.resv_list.specs.Reservations.{airtime_in}

-- The airtime of a list in one sub-band.

-- the airtime of the members of the sub-band
unfoldable pub total_in : Band → List Reservation → ℕ
total_in band [] = 0
total_in band (r ∷ rs) = airtime_in band r + total_in band rs

pub total_in-nil : (band : Band) → total_in band [] ≡ 0
unfolding total_in
total_in-nil band = refl

pub total_in-cons : (band : Band) (r : Reservation) (rs : List Reservation)
    → total_in band (r ∷ rs) ≡ airtime_in band r + total_in band rs
unfolding total_in
total_in-cons band r rs = refl

pub total_in-append : (band : Band) (ls rs : List Reservation) → total_in band (ls ++ rs) ≡ total_in band ls + total_in band rs
total_in-append band [] rs = omega (arith, total_in-nil band)
total_in-append band (x ∷ ls) rs =
    omega (arith, total_in-append band ls rs, total_in-cons band x ls, total_in-cons band x (ls ++ rs))
