use Rattle.std.specs.Prelude.{ℕ, ◌≡◌, ◌+◌, ◌<◌, ◌≤◌, if◌then◌else◌, List, [], ◌∷◌, map, length, slice_get, Option, Some}
use Rattle.std.specs.Option.{option_map, option_map_or}
use Rattle.std.specs.Map.{lookup}
use Rattle.std.specs.Str.{bytes_eq}
use Rattle.uplink_gather.specs.declared.limits.Limits.{Limits}
use Rattle.uplink_gather.specs.declared.stored.Stored.{Stored}
use Rattle.uplink_gather.specs.Gatherings.{Gathering, newest}

-- What the program keeps beside the list of gatherings.

-- each text of bytes that was ever heard, with the number of its newest gathering, in the order in which
-- they were first heard
abbrev pub Index : Type 0
Index = List (List ℕ × ℕ)

-- the bytes at a place of the index, and none past its end
abbrev pub text_at : Index → ℕ → List ℕ
text_at index place = option_map_or (λ e. e.0) (slice_get index place) []

-- the number of the newest gathering of these bytes
abbrev pub number_of : List ℕ → Index → Option ℕ
number_of bytes index = lookup (bytes_eq bytes) index

-- the index leads from these bytes to this number, and from any others as before; the bytes stand at the
-- place, and those that stood in it before stand where they stood
pub record Renews (old new : Index) (bytes : List ℕ) (number place : ℕ) : Type 0 where
  pub numbers : (other : List ℕ) → number_of other new ≡ (if bytes_eq other bytes then Some number else number_of other old)
  pub within : place < length new
  pub here : text_at new place ≡ bytes
  pub longer : length old ≤ length new
  pub kept : (i : ℕ) → i < length old → text_at new i ≡ text_at old i

-- a gathering as it is stored, with its bytes in the index
abbrev pub shown : {A : Type 0} → Index → Stored A → Gathering
shown index s =
    record { bytes = text_at index s.text; opened = s.opened; copies = s.copies.items; closed = s.closed }

-- the numbers of those that aren't closed, where the first on the list has the number n
abbrev pub open_from : ℕ → List Gathering → List ℕ
open_from n [] = []
open_from n (g ∷ gs) = if g.closed then open_from (n + 1) gs else n ∷ open_from (n + 1) gs

-- what is true of the fields at all times
pub record IsWhole {A : Type 0} (limits : Limits) (index : Index) (stored : List (Stored A))
    (open_numbers : List ℕ) : Type 0 where
  -- the bytes of each gathering stand in the index
  pub texts : (i : ℕ) (s : Stored A) → slice_get stored i ≡ Some s → s.text < length index
  -- the index leads from any bytes to the newest gathering that has them
  pub newest_is : (bytes : List ℕ) → number_of bytes index ≡ option_map (λ e. e.0) (newest bytes (map (shown index) stored))
  -- the numbers of the unclosed are just those, in rising order
  pub open_is : open_numbers ≡ open_from 1 (map (shown index) stored)
  pub bounded : length stored ≤ limits.max_ever
