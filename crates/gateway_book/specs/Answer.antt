use Rattle.std.specs.Prelude.{ℕ, ◌≡◌, ◌+◌, ◌^◌, nat_lt, ◌==◌, Bool, not, if◌then◌else◌, is_some, List, [], ◌∷◌, length, Option}
use Rattle.std.specs.Prelude.{Some, None, option_and_then}
use Rattle.std.specs.Option.{option_map}
use Rattle.radio_airtime.specs.DataRate.{max_phy_of}
use Rattle.radio_airtime.specs.TimeOnAir.{airtime_of}
use Rattle.radio_bands.specs.Band.{band_of}
use Rattle.resv_list.specs.declared.reservation.Reservation.{Reservation}
use Rattle.resv_list.specs.Fit.{end_at, last_end}
use Rattle.gateway_book.specs.declared.ask.Ask.{Ask}
use Rattle.gateway_book.specs.declared.refusal.Refusal.{Refusal}
use Rattle.gateway_book.specs.declared.refusal.Refusal.TheVariants.{NoBand, TooLong, PastEnd, Passed, Taken, DutyFull, Full}
use Rattle.gateway_book.specs.declared.refusal.Refusal.TheVariants.{TotalsFull}
use Rattle.gateway_book.specs.Disjoint.{overlaps, rested_from}
use Rattle.gateway_book.specs.Kept.{kept}
use Rattle.gateway_book.specs.Least.{first_start}
use Rattle.gateway_book.specs.Duty.{full_hour}
use Rattle.radio_bands.specs.declared.band.Band.{Band}
use Rattle.resv_list.specs.Reservations.{start_of, spent}

-- The answer of a book to an ask: the first of eight rows that holds, or none where it is accepted.

-- the greatest number of members that a book may have
abbrev pub most_cap : ℕ
most_cap = 65536

-- what a book is opened with, and keeps: how many members it may have, and the gap that it keeps between two of them
pub record Rules : Type 0 where
  pub cap : ℕ
  pub gap : ℕ

-- what an answer rests on beside the list
pub record Terms : Type 0 where
  pub floor : ℕ
  pub rules : Rules
  pub booked : ℕ

abbrev pub ask_airtime : Ask → ℕ
ask_airtime ask = airtime_of ask.rate ask.len

abbrev pub ask_end : Ask → ℕ
ask_end ask = end_at ask.start ask.rate ask.len

-- the reservation has the asked fields
pub record IsAsked (ask : Ask) (r : Reservation) : Type 0 where
  pub number : r.number ≡ ask.number
  pub start : r.start ≡ ask.start
  pub freq_hz : r.freq_hz ≡ ask.freq_hz
  pub rate : r.rate ≡ ask.rate
  pub len : r.len ≡ ask.len

-- a refusal where a test passes
abbrev pub refused_if : Bool → Refusal → Option Refusal
refused_if test refusal = if test then Some refusal else None

-- its channel lies in no sub-band
abbrev pub no_band : Ask → Option Refusal
no_band ask = refused_if (not (is_some (band_of ask.freq_hz ask.rate))) NoBand

-- its PHYPayload is longer than its data rate's
abbrev pub too_long : Ask → Option Refusal
too_long ask = refused_if (nat_lt (max_phy_of ask.rate) ask.len) TooLong

-- it ends after the end of time
abbrev pub past_end : Ask → Option Refusal
past_end ask = refused_if (nat_lt last_end (ask_end ask)) PastEnd

-- it begins before the floor
abbrev pub passed : Terms → Ask → Option Refusal
passed terms ask = refused_if (nat_lt ask.start terms.floor) Passed

-- the least start of a member that is not disjoint, with this gap, from what covers `from` up to `to`
unfoldable pub overlap : ℕ → List Reservation → ℕ → ℕ → Option ℕ
overlap gap l from to = first_start (overlaps start_of (rested_from gap) from (to + gap)) l

-- a member is not disjoint from it: the least start of such a member
abbrev pub taken : Terms → List Reservation → Ask → Option Refusal
taken terms l ask = option_map Taken (overlap terms.rules.gap l ask.start (ask_end ask))

-- an hour that holds its start would have more airtime of its band than the limit: the least opening
-- of such an hour, and the airtime that begins in it without what is asked for
abbrev pub overfull : List Reservation → ℕ → ℕ → Band → Option Refusal
overfull l start airtime band =
    option_map (λ from. DutyFull band from (spent l band from)) (full_hour l band start airtime)

abbrev pub duty_full : List Reservation → Ask → Option Refusal
duty_full l ask = option_and_then (overfull l ask.start (ask_airtime ask)) (band_of ask.freq_hz ask.rate)

-- as many members are kept as may be
abbrev pub full : Terms → List Reservation → Option Refusal
full terms l = refused_if (length (kept l terms.floor) == terms.rules.cap) Full

-- the greatest total of booked airtime
abbrev pub total_limit : ℕ
total_limit = 2 ^ 62

-- the booked airtime would pass the greatest total
abbrev pub totals_full : Terms → Ask → Option Refusal
totals_full terms ask = refused_if (nat_lt total_limit (terms.booked + ask_airtime ask)) TotalsFull

-- the rows, in the order in which they are looked at
abbrev pub rows : Terms → List Reservation → Ask → List (Option Refusal)
rows terms l ask =
    no_band ask
    ∷ too_long ask
    ∷ past_end ask
    ∷ passed terms ask
    ∷ taken terms l ask
    ∷ duty_full l ask
    ∷ full terms l
    ∷ totals_full terms ask
    ∷ []

-- the first that is some
abbrev pub first_some : {X : Type 0} → List (Option X) → Option X
first_some [] = None
first_some (None ∷ os) = first_some os
first_some (Some x ∷ os) = Some x

-- the refusal of an ask, or none where it is accepted
abbrev pub refusal_of : Terms → List Reservation → Ask → Option Refusal
refusal_of terms l ask = first_some (rows terms l ask)
