use Rattle.std.specs.Prelude.{ℕ, ◌≡◌, ◌+◌, ◌<◌, ◌≤◌, Bool, ◌↔◌, List, [], find, ◌⊎◌, Option, All, Contains, MatchOption}
use Rattle.std.specs.Option.{option_map}
use Rattle.resv_list.specs.declared.reservation.Reservation.{Reservation}
use Rattle.resv_list.specs.Reservations.{start_of, IsByStart, spent}
use Rattle.gateway_book.specs.Lawful.{AreApart, IsLawful}
use Rattle.gateway_book.specs.Least.{first_start, least}
use Rattle.gateway_book.specs.Spaced.{SpacedFrom}
use Rattle.radio_bands.specs.declared.band.Band.{Band}
use Rattle.radio_bands.specs.Band.{hour, limit_of}
use Rattle.resv_list.specs.Hours.{starts_in}
use Rattle.resv_list.specs.OnAir.{on_air}
use Rattle.gateway_book.specs.Duty.{full_hour}
use Rattle.gateway_book.specs.Busiest.{IsBusiestAnswer, busiest_of}
use Rattle.gateway_book.specs.Disjoint.{rested_from}

-- The laws of a book: what its definitions mean, for every list and every natural moment.

-- neighbours of a list by start are spaced exactly where members at different places are disjoint
abbrev pub SpacedIsApart : Type 0
SpacedIsApart =
    (gap : ℕ) (l : List Reservation) → IsByStart l → SpacedFrom start_of (rested_from gap) 0 l ↔ AreApart gap l

-- a list that keeps a gap keeps each smaller one, so that its members are disjoint
abbrev pub GapKeepsDisjoint : Type 0
GapKeepsDisjoint = (gap less : ℕ) (l : List Reservation) → less ≤ gap → IsLawful gap l → IsLawful less l

-- the first member of a list by start that passes a test has the least start of those that do
abbrev pub FirstHasLeastStart : Type 0
FirstHasLeastStart =
    (test : Reservation → Bool) (l : List Reservation) → IsByStart l → first_start test l ≡ option_map start_of (find test l)

-- the least of some numbers is one of them, and none of them is less; there is none of no numbers
abbrev pub LeastIsLeast : Type 0
LeastIsLeast = (ns : List ℕ) → MatchOption (least ns) (ns ≡ []) (λ m. Contains ns m × All (λ n. m ≤ n) ns)

-- the start of what is asked for, or of a member of the band
abbrev pub IsOpening : List Reservation → Band → ℕ → ℕ → Type 0
IsOpening l band start t = (t ≡ start) ⊎ Contains (starts_in l band) t

-- the least such start whose hour holds what is asked for and would pass the limit
pub record IsFirstFullHour (l : List Reservation) (band : Band) (start airtime from : ℕ) : Type 0 where
  pub opens : IsOpening l band start from
  pub begins : from ≤ start
  pub lasts : start < from + hour
  pub passes : limit_of band < spent l band from + airtime
  pub first : (t : ℕ) → IsOpening l band start t → t ≤ start → start < t + hour → limit_of band < spent l band t + airtime
      → from ≤ t

-- what the row of the duty cycle says: no hour that holds the start would pass the limit, wherever it opens; or the
-- first full hour
abbrev pub IsDutyAnswer : List Reservation → Band → ℕ → ℕ → Option ℕ → Type 0
IsDutyAnswer l band start airtime o =
    MatchOption
    o
    ((t : ℕ) → t ≤ start → start < t + hour → spent l band t + airtime ≤ limit_of band)
    (IsFirstFullHour l band start airtime)

-- the law: the answer is the one of the row, for every list and every natural moment
abbrev pub DutyRowIsExact : Type 0
DutyRowIsExact =
    (l : List Reservation) (band : Band) (start airtime : ℕ) (o : Option ℕ) →
    IsDutyAnswer l band start airtime o ↔ (o ≡ full_hour l band start airtime)

-- the law: where no hour that opens at the start, or at the start of a member of the band within the
-- hour before it, would pass the limit, no hour at all would
abbrev pub FewHoursSuffice : Type 0
FewHoursSuffice =
    (l : List Reservation) (band : Band) (start airtime : ℕ) →
    ((t : ℕ) → IsOpening l band start t → t ≤ start → start < t + hour → spent l band t + airtime ≤ limit_of band) →
    (t : ℕ) → t ≤ start → start < t + hour → spent l band t + airtime ≤ limit_of band

-- the law: for every list the answer is the busiest hour, and there is one such answer
abbrev pub BusiestIsExact : Type 0
BusiestIsExact = (l : List Reservation) (band : Band) (o : Option (ℕ × ℕ)) → IsBusiestAnswer l band o ↔ (o ≡ busiest_of l band)

-- the law: of a list that a gateway may hold, whatever its gap, no hour has more of a band on air than the limit, wherever it
-- opens: of what begins before the hour, or ends after it, the part counts that lies within
abbrev pub OnAirKeepsLimit : Type 0
OnAirKeepsLimit =
    (gap : ℕ) (l : List Reservation) → IsLawful gap l → (band : Band) (t : ℕ) → on_air band t (t + hour) l ≤ limit_of band
