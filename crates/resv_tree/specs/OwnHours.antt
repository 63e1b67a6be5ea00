use Rattle.std.specs.Prelude.{ℕ, ◌≡◌, ◌*◌, ◌/◌, List}
use Rattle.std.specs.Coded.{Coded-set, coded_ℕ}
use Rattle.radio_bands.specs.declared.band.Band.{Band}
use Rattle.resv_list.specs.declared.reservation.Reservation.{Reservation}
use Rattle.resv_list.specs.Hours.{reach}
use Rattle.resv_list.specs.Reservations.{airtime_in, spent}
use Rattle.resv_tree.specs.declared.entry.Entry.{Entry}
use Rattle.resv_tree.specs.Entries.{amount, members, moved_in, CanMoveIn, Each, Each-prop}

-- The hours that members open.

-- the airtime of a member's own hour: what begins in it of its sub-band
abbrev pub own_hour : List Reservation → Reservation → ℕ
own_hour l r = amount (λ band. spent l band r.start) r

-- each entry has its member's own hour, in the list of all, in quarters of the shortest symbol
abbrev pub HasHours : List Entry → Type 0
HasHours es = Each (λ (e : Entry). 128 * e.own ≡ own_hour (members es) e.reservation) es

pub HasHours-prop : (es : List Entry) → IsProp (HasHours es)
HasHours-prop es =
    Each-prop (λ (e : Entry). 128 * e.own ≡ own_hour (members es) e.reservation)
    (λ (e : Entry). Coded-set coded_ℕ (128 * e.own) (own_hour (members es) e.reservation)) es

-- no airtime
abbrev pub nothing : Band → ℕ
nothing band = 0

-- the airtime of one member by sub-bands, in quarters of the shortest symbol
abbrev pub airtimes : Reservation → Band → ℕ
airtimes r band = airtime_in band r / 128

-- one more member counts in the hours that open before it and reach it
abbrev pub raised : Reservation → Entry → Entry
raised r e = moved_in (reach r.start) r.start (airtimes r) nothing e

-- and no more where it is taken out
abbrev pub lowered : Reservation → Entry → Entry
lowered r e = moved_in (reach r.start) r.start nothing (airtimes r) e

-- where it opens in that stretch, the entry's own hour has what the member has
abbrev pub CountsIn : Reservation → Entry → Type 0
CountsIn r e = CanMoveIn (reach r.start) r.start nothing (airtimes r) e
