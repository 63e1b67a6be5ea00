use Rattle.std.specs.Prelude.{ℕ, ◌≡◌, ◌≢◌, List, Some, All, slice_get, ◌≤◌}
use Rattle.resv_list.specs.declared.reservation.Reservation.{Reservation}
use Rattle.radio_bands.specs.declared.band.Band.{Band}
use Rattle.radio_bands.specs.Band.{limit_of}
use Rattle.resv_list.specs.Fit.{IsFit}
use Rattle.resv_list.specs.Reservations.{spent}
use Rattle.gateway_book.specs.Disjoint.{AreDisjoint}

-- members at different places are disjoint, with a gap between them
abbrev pub AreApart : ℕ → List Reservation → Type 0
AreApart gap l =
    (i j : ℕ) (r s : Reservation) → slice_get l i ≡ Some r → slice_get l j ≡ Some s → i ≢ j → AreDisjoint gap r s

-- reservations that one gateway may hold together: each is fit, they are disjoint with its gap between them, and in each
-- band the airtime that begins within any hour, wherever it opens, keeps the limit
pub record IsLawful (gap : ℕ) (l : List Reservation) : Type 0 where
  pub fit : All (λ r. IsFit r.start r.freq_hz r.rate r.len) l
  pub apart : AreApart gap l
  pub duty : (band : Band) (t : ℕ) → spent l band t ≤ limit_of band
