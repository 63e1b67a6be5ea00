use Rattle.std.specs.Prelude.{ℕ, ◌≡◌, ◌<◌, ◌≤◌, ◌+◌, ◌-◌, max, List, length, Result, Ok, Err}
use Rattle.resv_list.specs.declared.reservation.Reservation.{Reservation}
use Rattle.resv_list.specs.Reservations.{IsByStart, IsFree, net, place, airtime_us}
use Rattle.gateway_book.specs.declared.totals.Totals.{Totals}
use Rattle.gateway_book.specs.Disjoint.{most_gap}
use Rattle.gateway_book.specs.Lawful.{IsLawful}
use Rattle.gateway_book.specs.Kept.{kept, retired_of}
use Rattle.gateway_book.specs.Answer.{Rules, Terms, most_cap, total_limit}
use Rattle.gateway_book.specs.Step.{State, terms_at, without_named}
use Rattle.gateway_book.specs.declared.cancel.CancelFault.{CancelFault}

-- What callers see of a gateway's book: its kept list by start, and its totals.
pub record Book : Type 0 where
  pub id : ℕ
  pub rules : Rules
  pub floor : ℕ
  pub list : List Reservation
  pub booked : ℕ
  pub cancelled : ℕ
  pub retired : ℕ

-- its part in a gateway's step
abbrev pub state_of : Book → State
state_of b = record { floor = b.floor; list = b.list; booked = b.booked; cancelled = b.cancelled }

-- what its answers rest on beside the list
abbrev pub terms_of : Book → Terms
terms_of b = terms_at b.rules (state_of b)

-- the book with one more reservation in its place
abbrev pub with_booked : Book → Reservation → Book
with_booked b r = record b { list = place r b.list; booked = b.booked + airtime_us r }

-- the book without the reservation with this number and this start
abbrev pub with_cancelled : Book → ℕ → ℕ → ℕ → Book
with_cancelled b number start airtime =
    record b { list = without_named b.list number start; cancelled = b.cancelled + airtime }

-- the book once its floor has risen: what is no longer kept is retired
abbrev pub at_floor : Book → ℕ → Book
at_floor b floor =
    record b { floor = floor; list = kept b.list floor; retired = b.retired + net (retired_of b.list floor) }

-- the book after a tick: its floor is the greater of the two
abbrev pub ticked : Book → ℕ → Book
ticked b now = at_floor b (max b.floor now)

-- the book under other rules
abbrev pub with_rules : Book → Rules → Book
with_rules b rules = record b { rules = rules }

-- what a caller of `cancel` is told: the airtime of what was taken out, or why nothing was
abbrev pub airtime_answer : Result Reservation CancelFault → Result ℕ CancelFault
airtime_answer (Ok r) = Ok (airtime_us r)
airtime_answer (Err fault) = Err fault

-- what it has counted
abbrev pub totals_of : Book → Totals
totals_of b =
    record {
      booked = b.booked;
      cancelled = b.cancelled;
      retired = b.retired;
      kept_airtime = net b.list;
      kept = length b.list;
      floor = b.floor;
    }

-- what every book keeps at all times
pub record IsSound (b : Book) : Type 0 where
  pub opened : 0 < b.rules.cap
  pub capped : b.rules.cap ≤ most_cap
  pub counted : length b.list ≤ b.rules.cap
  pub rested : b.rules.gap ≤ most_gap
  pub lawful : IsLawful b.rules.gap b.list
  pub kept_whole : kept b.list b.floor ≡ b.list
  pub balanced : b.booked ≡ b.cancelled + b.retired + net b.list
  pub bounded : b.booked ≤ total_limit

-- of a reservation, that it may join the book: it begins where no member does, and the book keeps the same with it
pub record Admits (b : Book) (r : Reservation) : Type 0 where
  pub free : IsFree r.start b.list
  pub sound : IsSound (with_booked b r)

-- a list that a book with these rules, this floor and this booked airtime may keep
pub record IsBookList (rules : Rules) (floor booked : ℕ) (l : List Reservation) : Type 0 where
  pub opened : 0 < rules.cap
  pub capped : rules.cap ≤ most_cap
  pub counted : length l ≤ rules.cap
  pub by_start : IsByStart l
  pub rested : rules.gap ≤ most_gap
  pub lawful : IsLawful rules.gap l
  pub kept_whole : kept l floor ≡ l
  pub covered : net l ≤ booked
  pub bounded : booked ≤ total_limit

-- the book that is opened with such a list: what was booked beside it is retired
abbrev pub trial_book : ℕ → Rules → ℕ → ℕ → List Reservation → Book
trial_book id rules floor booked l =
    record {
      id = id;
      rules = rules;
      floor = floor;
      list = l;
      booked = booked;
      cancelled = 0;
      retired = booked - net l;
    }
