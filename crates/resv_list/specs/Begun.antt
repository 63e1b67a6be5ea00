use Rattle.std.specs.Prelude.{ℕ, ◌≡◌, ◌+◌, List, [], ◌∷◌}
use Rattle.std.proofs.Common.{refl}
use Rattle.radio_bands.specs.declared.band.Band.{Band}
use Rattle.resv_list.specs.declared.reservation.Reservation.{Reservation}
use Rattle.resv_list.specs.Reservations.{share, begun}

-- The airtime that begins in a stretch of time, member by member.

pub begun-cons : (band : Band) (from to : ℕ) (r : Reservation) (rs : List Reservation)
    → begun band from to (r ∷ rs) ≡ share band from to r + begun band from to rs
unfolding begun
begun-cons band from to r rs = refl

pub begun-nil : (band : Band) (from to : ℕ) → begun band from to [] ≡ 0
unfolding begun
begun-nil band from to = refl
