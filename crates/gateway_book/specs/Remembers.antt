use Rattle.std.specs.Prelude.{◌≡◌, ◌+◌}
use Rattle.resv_list.specs.Reservations.{net}
use Rattle.gateway_book.specs.Orderly.{IsOrderly}
use Rattle.gateway_book.specs.Kept.{kept}
use Rattle.gateway_book.specs.Step.{State}
use Rattle.gateway_book.specs.Book.{Book}

-- A book beside a state that forgets nothing.

-- it has that state's floor and totals, and what is kept of its list
pub record Remembers (b : Book) (s : State) : Type 0 where
  pub floor : b.floor ≡ s.floor
  pub list : b.list ≡ kept s.list s.floor
  pub booked : b.booked ≡ s.booked
  pub cancelled : b.cancelled ≡ s.cancelled

-- and the state's list is one that a gateway may hold, with the totals to it
pub record StandsFor (b : Book) (s : State) : Type 0 where
  pub orderly : IsOrderly b.rules.gap s.list
  pub balanced : s.booked ≡ s.cancelled + net s.list
  pub remembers : Remembers b s
