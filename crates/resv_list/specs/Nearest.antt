use Rattle.std.specs.Prelude.{ℕ, ◌<◌, ◌≤◌, List, Option, All, Contains, MatchOption}
use Rattle.resv_list.specs.declared.reservation.Reservation.{Reservation}
use Rattle.resv_list.specs.Reservations.{IsByStart, member_before, member_from}

-- The members on either side of a moment.

-- the member with the greatest start below the moment, or that no member begins below it
abbrev pub IsLastBefore : List Reservation → ℕ → Option Reservation → Type 0
IsLastBefore l start o =
    MatchOption o (All (λ s. start ≤ s.start) l) (λ r. Contains l r × (r.start < start)
    × All (λ s. s.start < start → s.start ≤ r.start) l)

-- the member with the least start not below the moment, or that every member begins below it
abbrev pub IsFirstFrom : List Reservation → ℕ → Option Reservation → Type 0
IsFirstFrom l start o =
    MatchOption o (All (λ s. s.start < start) l) (λ r. Contains l r × (start ≤ r.start)
    × All (λ s. start ≤ s.start → r.start ≤ s.start) l)

-- in a list that is by start, where no two members begin together, these are the ones that are found
abbrev pub NearestAreFound : Type 0
NearestAreFound =
    (l : List Reservation) (start : ℕ)
    → IsByStart l → IsLastBefore l start (member_before start l) × IsFirstFrom l start (member_from start l)
