use Rattle.std.specs.Prelude.{ℕ, ◌≡◌, ◌≤◌, ◌==◌, List, [], Option, filter, Contains, MatchOption}
use Rattle.std.specs.Option.{option_map}
use Rattle.radio_bands.specs.declared.band.Band.{Band}
use Rattle.resv_list.specs.declared.reservation.Reservation.{Reservation}
use Rattle.resv_list.specs.Reservations.{spent}
use Rattle.resv_list.specs.Hours.{starts_in, most_spent}
use Rattle.gateway_book.specs.Least.{least}

-- The busiest hour of a band.

-- It opens at the start of a member of the band; no hour, wherever it opens, has more airtime of the
-- band; and no earlier start of a member of the band has as much.
pub record IsBusiest (l : List Reservation) (band : Band) (from sum : ℕ) : Type 0 where
  pub opens : Contains (starts_in l band) from
  pub airtime : sum ≡ spent l band from
  pub most : (t : ℕ) → spent l band t ≤ sum
  pub first : (t : ℕ) → Contains (starts_in l band) t → spent l band t ≡ sum → from ≤ t

-- the same as an answer: none where the band has no member
abbrev pub IsBusiestAnswer : List Reservation → Band → Option (ℕ × ℕ) → Type 0
IsBusiestAnswer l band o = MatchOption o (starts_in l band ≡ []) (λ p. IsBusiest l band p.0 p.1)

-- the least start of a member with the most airtime in its own hour, with that airtime
unfoldable pub busiest_of : List Reservation → Band → Option (ℕ × ℕ)
busiest_of l band =
    option_map (λ from. (from, spent l band from)) (least (filter (λ t. spent l band t == most_spent l band) (starts_in l band)))
