use Rattle.std.specs.Prelude.{ℕ, zero, suc, ◌+◌, ◌-◌, nat_lt, Bool, true, false, not, ◌&&◌, if◌then◌else◌, List, [], ◌∷◌}
use Rattle.std.specs.Prelude.{slice_get, slice_set, Option, Some, None}
use Rattle.std.specs.List.{position_from}
use Rattle.std.specs.Option.{option_map_or, option_or}
use Rattle.std.specs.Str.{bytes_eq}
use Rattle.uplink_gather.specs.declared.heard.HeardCopy.{HeardCopy}
use Rattle.uplink_gather.specs.declared.limits.Limits.{Limits}

-- Gatherings of the copies of one uplink, after this project's profile. Moments are in microseconds.

-- the copies of the uplink with these bytes, in the order in which they joined; the first opened it
pub record Gathering : Type 0 where
  pub bytes : List ℕ
  pub opened : ℕ
  pub copies : List HeardCopy
  pub closed : Bool

-- all gatherings that were ever opened, in that order, and how many there may be
pub record Gatherings : Type 0 where
  pub list : List Gathering
  pub limits : Limits

-- what has this number, counted from 1
abbrev pub numbered : {X : Type 0} → ℕ → List X → Option X
numbered zero xs = None
numbered (suc i) xs = slice_get xs i

-- the list with f of what has this number in its place
abbrev pub rewritten : {X : Type 0} → (X → X) → ℕ → List X → List X
rewritten f n xs = option_map_or (λ x. slice_set xs (n - 1) (f x)) (numbered n xs) xs

-- whether two copies are of the same uplink: their bytes are equal
abbrev pub has_bytes : List ℕ → Gathering → Bool
has_bytes bytes g = bytes_eq bytes g.bytes

-- the last that has these bytes, with its number, where the first on the list has the number n
abbrev pub newest_from : ℕ → List ℕ → List Gathering → Option (ℕ × Gathering)
newest_from n bytes [] = None
newest_from n bytes (g ∷ gs) =
    option_or (newest_from (n + 1) bytes gs) (if has_bytes bytes g then Some (n, g) else None)

-- the newest gathering of these bytes, with its number
unfoldable pub newest : List ℕ → List Gathering → Option (ℕ × Gathering)
newest bytes l = newest_from 1 bytes l

abbrev pub is_open : Gathering → Bool
is_open g = not g.closed

-- for how long after its opening copies join a gathering
abbrev pub join_us : ℕ
join_us = 200000

-- it isn't closed, and no copy joins it any more
abbrev pub is_due : ℕ → Gathering → Bool
is_due now g = is_open g && nat_lt (g.opened + join_us) now

-- the least number of a gathering that is due
unfoldable pub due_of : ℕ → List Gathering → Option ℕ
due_of now l = position_from (is_due now) 1 l

-- the gathering with this number is there and isn't closed
abbrev pub is_open_at : ℕ → List Gathering → Bool
is_open_at n l = option_map_or is_open (numbered n l) false

-- the gathering with this number is there and closed
abbrev pub is_closed_at : ℕ → List Gathering → Bool
is_closed_at n l = option_map_or (λ g. g.closed) (numbered n l) false

-- its bytes, and none where there is no such gathering
abbrev pub bytes_of : ℕ → List Gathering → List ℕ
bytes_of n l = option_map_or (λ g. g.bytes) (numbered n l) []

-- its copies, and none where there is no such gathering
abbrev pub copies_of : ℕ → List Gathering → List HeardCopy
copies_of n l = option_map_or (λ g. g.copies) (numbered n l) []

-- closing a gathering that isn't closed; any other number changes nothing
abbrev pub close_step : Gatherings → ℕ → Gatherings
close_step s n =
    if is_open_at n s.list then record s { list = rewritten (λ g. record g { closed = true }) n s.list } else s
