-- What the law on the members on either side of a moment says of two worked transmissions, which begin at the moments 1,000 and
-- 50,000; then what it says of every list by start.
use Rattle.std.proofs.Common.{ℕ, ◌≡◌, ◌<◌, ◌≤◌, List, Option, None, Some, All, Contains, MatchOption, arith, subst}
use Rattle.resv_list.specs.declared.reservation.Reservation.{Reservation}
use Rattle.resv_list.specs.Reservations.{IsByStart, member_before, member_from}
use Rattle.resv_list.specs.Nearest.{NearestAreFound}
use Rattle.resv_list.proofs.WorkedOnAir.{short, long, both}

pub by_start : IsByStart both
unfolding short long
by_start = (omega arith, (omega arith, tt))

module _ (law : NearestAreFound) where
  pub before_is_told : Contains both short × (1000 < 50000) × All (λ s. s.start < 50000 → s.start ≤ 1000) both
  unfolding short long
  before_is_told = (law both 50000 by_start).0

  pub none_before_is_told : All (λ s. 1000 ≤ s.start) both
  unfolding short long
  none_before_is_told = (law both 1000 by_start).0

  pub from_is_told : Contains both long × (50000 ≤ 50000) × All (λ s. 50000 ≤ s.start → 50000 ≤ s.start) both
  unfolding short long
  from_is_told = (law both 50000 by_start).1

  pub none_from_is_told : All (λ s. s.start < 50001) both
  unfolding short long
  none_from_is_told = (law both 50001 by_start).1

module _ (law : NearestAreFound) (l : List Reservation) (rising : IsByStart l) (start : ℕ) where
  abbrev IsLast : Reservation → Type 0
  IsLast r = Contains l r × (r.start < start) × All (λ s. s.start < start → s.start ≤ r.start) l

  abbrev IsFirst : Reservation → Type 0
  IsFirst r = Contains l r × (start ≤ r.start) × All (λ s. start ≤ s.start → r.start ≤ s.start) l

  abbrev before_by : Option Reservation → Type 0
  before_by o = MatchOption o (All (λ s. start ≤ s.start) l) IsLast

  abbrev from_by : Option Reservation → Type 0
  from_by o = MatchOption o (All (λ s. s.start < start) l) IsFirst

  pub each_before_is_last : (r : Reservation) → member_before start l ≡ Some r → IsLast r
  each_before_is_last r e = subst before_by e (law l start rising).0

  pub each_begins_later : member_before start l ≡ None → All (λ s. start ≤ s.start) l
  each_begins_later e = subst before_by e (law l start rising).0

  pub each_from_is_first : (r : Reservation) → member_from start l ≡ Some r → IsFirst r
  each_from_is_first r e = subst from_by e (law l start rising).1

  pub each_begins_earlier : member_from start l ≡ None → All (λ s. s.start < start) l
  each_begins_earlier e = subst from_by e (law l start rising).1
