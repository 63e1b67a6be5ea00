use Rattle.std.specs.Prelude.{ℕ, ◌+◌, ◌-◌, ◌≤◌, ◌<◌, nat_lt, nat_le, Bool, ◌&&◌, if◌then◌else◌, List, [], ◌∷◌, Option, Some}
use Rattle.std.specs.Prelude.{None, map, ⊤}
use Rattle.std.specs.Prelude.{filter, find, not, ◌==◌, option_map}
use Rattle.std.specs.Coded.{×_prop, Unit-prop}
use Rattle.radio_bands.specs.declared.band.Band.{Band}
use Rattle.radio_bands.specs.Band.{band_of}
use Rattle.resv_list.specs.declared.reservation.Reservation.{Reservation}
use Rattle.resv_list.specs.Reservations.{is_in}
use Rattle.resv_list.specs.Sorted.{RisesFrom}
use Rattle.resv_tree.specs.declared.entry.Entry.{Entry}

-- What the tree keeps of its members: each with the airtime of its own hour.

-- by which they are in order
abbrev pub key_of : Entry → ℕ
key_of e = e.reservation.start

-- the keys rise, and no two are the same
abbrev pub IsByKey : List Entry → Type 0
IsByKey es = RisesFrom key_of 0 es

abbrev pub member_of : Entry → Reservation
member_of e = e.reservation

-- the members
abbrev pub members : List Entry → List Reservation
members es = map member_of es

-- the entry with this very key, and all but that one
abbrev pub entry_at : ℕ → List Entry → Option Entry
entry_at key es = find (λ e. key_of e == key) es

-- the entries without the one that has this key
abbrev pub entries_without : ℕ → List Entry → List Entry
entries_without key es = filter (λ e. not (key_of e == key)) es

-- Amounts by sub-bands, of which a member takes that of its own; own hours are in quarters of the shortest symbol.

abbrev pub at_band : (Band → ℕ) → Option Band → ℕ
at_band f None = 0
at_band f (Some band) = f band

-- what a member takes of amounts by sub-bands: that of its own, and 0 where it lies in none
abbrev pub amount : (Band → ℕ) → Reservation → ℕ
amount f r = at_band f (band_of r.freq_hz r.rate)

-- the entry with so much more in its own hour, and then so much less
abbrev pub moved : (Band → ℕ) → (Band → ℕ) → Entry → Entry
moved more less e =
    record { reservation = e.reservation; own = e.own + amount more e.reservation - amount less e.reservation }

-- the same of an entry in a stretch
abbrev pub moved_in : ℕ → ℕ → (Band → ℕ) → (Band → ℕ) → Entry → Entry
moved_in from to more less e = if nat_le from (key_of e) && nat_lt (key_of e) to then moved more less e else e

-- so much less can be taken
abbrev pub CanMove : (Band → ℕ) → (Band → ℕ) → Entry → Type 0
CanMove more less e = amount less e.reservation ≤ e.own + amount more e.reservation

-- the same of an entry where it is in a stretch
abbrev pub CanMoveIn : ℕ → ℕ → (Band → ℕ) → (Band → ℕ) → Entry → Type 0
CanMoveIn from to more less e = from ≤ key_of e → key_of e < to → CanMove more less e

-- whether it is one of the band that begins in a stretch, and its own hour has at least so much
abbrev pub reaches : Band → ℕ → ℕ → ℕ → Entry → Bool
reaches band from to least e =
    is_in band e.reservation && nat_le from (key_of e) && nat_lt (key_of e) to && nat_le least e.own

-- the first such member
abbrev pub first_reaching : Band → ℕ → ℕ → ℕ → List Entry → Option Reservation
first_reaching band from to least es = option_map member_of (find (reaches band from to least) es)

-- the airtime of the own hour where the member is one of the band, and 0 where it isn't
abbrev pub own_in : Band → Entry → ℕ
own_in band e = if is_in band e.reservation then e.own else 0

-- so it is of each
abbrev pub Each : {X : Type 0} → (X → Type 0) → List X → Type 0
Each P [] = ⊤
Each P (x ∷ xs) = P x × Each P xs

pub Each-prop : {X : Type 0} (P : X → Type 0) → ((x : X) → IsProp (P x)) → (xs : List X) → IsProp (Each P xs)
Each-prop P h [] = Unit-prop
Each-prop P h (x ∷ xs) = ×_prop (h x) (Each-prop P h xs)
