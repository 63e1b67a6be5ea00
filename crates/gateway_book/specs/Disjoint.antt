use Rattle.std.specs.Prelude.{ℕ, ◌+◌, ◌≤◌, nat_le, Bool, not, ◌||◌, ◌⊎◌}
use Rattle.resv_list.specs.declared.reservation.Reservation.{Reservation}
use Rattle.resv_list.specs.Reservations.{end_of}

-- A reservation covers the moments from its start on and before its end. Between two of them a gateway needs a gap.

-- the greatest gap of a gateway
abbrev pub most_gap : ℕ
most_gap = 100000

-- the moment from which its gateway may transmit again
abbrev pub rested_from : ℕ → Reservation → ℕ
rested_from gap r = end_of r + gap

-- one ends, and the gap passes, no later than the other starts; without a gap they may touch
abbrev pub AreDisjoint : ℕ → Reservation → Reservation → Type 0
AreDisjoint gap r s = (rested_from gap r ≤ s.start) ⊎ (rested_from gap s ≤ r.start)

-- whether what begins at its key and lasts until its end is not disjoint from what covers `from` up to `to`
abbrev pub overlaps : {X : Type 0} → (X → ℕ) → (X → ℕ) → ℕ → ℕ → X → Bool
overlaps key end from to x = not (nat_le (end x) from || nat_le to (key x))
