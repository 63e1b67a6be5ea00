use Rattle.std.specs.Prelude.{ℕ, ◌≡◌, ◌+◌, ◌*◌, ◌/◌, ◌^◌, ◌≤◌, max, List, [], ◌∷◌, ◌++◌, length}
use Rattle.std.specs.Coded.{le_prop, Coded-set, coded_ℕ}
use Rattle.radio_bands.specs.declared.band.Band.{Band}
use Rattle.radio_bands.specs.Band.{hour}
use Rattle.resv_list.specs.declared.reservation.Reservation.{Reservation}
use Rattle.resv_list.specs.declared.roster.TheConstants.{MAX_MEMBERS}
use Rattle.resv_list.specs.Sorted.{RisesFrom-prop}
use Rattle.resv_list.specs.Reservations.{start_of, begun, IsByStart}
use Rattle.resv_tree.specs.declared.entry.Entry.{Entry}
use Rattle.resv_tree.specs.declared.sums.Sums.{Sums}
use Rattle.resv_tree.specs.OwnHours.{own_hour}
use Rattle.resv_tree.specs.Shape.{Shape, entries, height_of, count_of, IsWhole}
use Rattle.resv_tree.specs.Sums.{sum_in}

-- A tree that is made of a list by start at once.

-- each member with its own hour: in a list by start all that begins in it stands from the member on
abbrev pub with_hours : List Reservation → List Entry
with_hours [] = []
with_hours (r ∷ rs) = record { reservation = r; own = own_hour (r ∷ rs) r / 128 } ∷ with_hours rs

-- there is a first one of some members, and the hour that it opens ends by a moment
abbrev pub EndsBy : ℕ → List Reservation → Type 0
EndsBy to [] = ⊥
EndsBy to (r ∷ rs) = r.start + hour ≤ to

-- what a walk over members by start keeps: those that are left, those of them that it hasn't taken in, and the sums of the
-- others. Once the hour that the first one left opens is over, what has begun by then is in the sums or stands ahead.
pub record IsAhead (left ahead : List Reservation) (s : Sums) : Type 0 where
  pub left_by_start : IsByStart left
  pub ahead_by_start : IsByStart ahead
  pub left_room : length left ≤ MAX_MEMBERS
  pub ahead_room : length ahead ≤ MAX_MEMBERS
  pub parted : (band : Band) (to : ℕ) → EndsBy to left → begun band 0 to left ≡ sum_in s band + begun band 0 to ahead

pub IsAhead-prop : (left ahead : List Reservation) (s : Sums) → IsProp (IsAhead left ahead s)
IsAhead-prop left ahead s =
    hlevel (le_prop, Coded-set coded_ℕ, RisesFrom-prop start_of 0 left, RisesFrom-prop start_of 0 ahead)

-- a tree of the next members of those that are left, so low that two of as many members, or of one less, are level
pub record IsBuilt (t : Shape) (left still_left : List Reservation) (count : ℕ) : Type 0 where
  pub entries : entries t ++ with_hours still_left ≡ with_hours left
  pub fewer : length left ≡ count + length still_left
  pub counted : count_of t ≡ count
  pub low : 2 ^ height_of t ≤ max 1 (2 * count)
  pub whole : IsWhole t
