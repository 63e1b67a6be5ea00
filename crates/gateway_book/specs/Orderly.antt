use Rattle.std.specs.Prelude.{List, ℕ, ◌≤◌}
use Rattle.resv_list.specs.declared.reservation.Reservation.{Reservation}
use Rattle.resv_list.specs.Reservations.{IsByStart}
use Rattle.gateway_book.specs.Lawful.{IsLawful}
use Rattle.gateway_book.specs.Disjoint.{most_gap}

-- A gateway's reservations, whatever its book counts.

-- they stand by start, and one gateway with this gap may hold them together
pub record IsOrderly (gap : ℕ) (l : List Reservation) : Type 0 where
  pub rested : gap ≤ most_gap
  pub by_start : IsByStart l
  pub lawful : IsLawful gap l
