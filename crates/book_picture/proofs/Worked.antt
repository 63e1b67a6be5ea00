-- What the law says of a worked hour, and the figures of its picture: two transmissions of 41,216 us in sub-band M, one after the
-- other, the first at 10 s. A third begins an hour after the first: in the hour from 10 s the first is there, and the third is not.
use Rattle.std.proofs.Common.{ℕ, ◌≡◌, List, [], ◌∷◌, Some, None, map, filter, All, Contains, refl, arith, zero}
use Rattle.std.specs.Prelude.{codes}
use Rattle.std.specs.Fmt.{digits}
use Rattle.radio_airtime.specs.TimeOnAir.{airtime_of}
use Rattle.radio_airtime.specs.declared.data_rate.DataRate.TheVariants.{Dr5}
use Rattle.radio_bands.specs.Band.{band_of}
use Rattle.radio_bands.specs.declared.band.Band.TheVariants.{M}
use Rattle.resv_list.specs.declared.reservation.Reservation.{Reservation}
use Rattle.resv_list.specs.Reservations.{begun, spent}
use Rattle.gateway_book.specs.declared.ask.Ask.{Ask}
use Rattle.gateway_book.specs.Book.{Book}
use Rattle.gateway_book.specs.Step.{is_fit-IsFit}
use Rattle.book_picture.specs.Hour.{latest_hour, opening_of, members_of_hour}
use Rattle.book_picture.specs.Laws.{PictureShowsHour, BeginsIn, is_mark}
use Rattle.book_picture.specs.Lines.{mark_line, bar_line, floor_lines, picture_lines}

abbrev asked : ℕ → ℕ → Ask
asked number start = record { number = number; start = start; freq_hz = 868100000; rate = Dr5; len = 12 }

unfoldable pub first : Reservation
unfolding airtime_of band_of
first = record { number = 1; start = 10000000; freq_hz = 868100000; rate = Dr5; len = 12; fit = is_fit-IsFit (asked 1 10000000) refl }

unfoldable pub second : Reservation
unfolding airtime_of band_of
second = record { number = 2; start = 10041216; freq_hz = 868100000; rate = Dr5; len = 12; fit = is_fit-IsFit (asked 2 10041216) refl }

unfoldable pub third : Reservation
unfolding airtime_of band_of
third = record { number = 3; start = 3610000000; freq_hz = 868100000; rate = Dr5; len = 12; fit = is_fit-IsFit (asked 3 3610000000) refl }

-- a book that keeps such transmissions
abbrev keeping : List Reservation → Book
keeping l = record { id = 1; rules = record { cap = 4096; gap = 0 }; floor = 0; list = l; booked = 0; cancelled = 0; retired = 0 }

-- the figures of the two
pub first_mark : mark_line 0 first ≡ codes "<rect class=\"d5\" x=\"2777\" y=\"260000\" width=\"1000\" height=\"30000\"/>"
unfolding first airtime_of band_of digits
first_mark = refl

pub second_mark : mark_line 0 second ≡ codes "<rect class=\"d5\" x=\"2789\" y=\"260000\" width=\"1000\" height=\"30000\"/>"
unfolding second airtime_of band_of digits
second_mark = refl

pub bar : bar_line M (spent (first ∷ second ∷ []) M 0)
    ≡ codes "<rect class=\"bar\" x=\"0\" y=\"234000\" width=\"2289\" height=\"16000\"/>"
unfolding first second airtime_of begun digits
bar = refl

-- the bar counts what begins in the hour, and not all that is kept
pub bar_of_the_hour : spent (first ∷ second ∷ third ∷ []) M 10000001 ≡ 82432
unfolding first second third airtime_of begun
bar_of_the_hour = refl

-- no end lies an hour behind the beginning; that of the third does
pub from_the_beginning : latest_hour (first ∷ second ∷ []) ≡ 0
unfolding first second airtime_of
from_the_beginning = refl

pub hour_of_the_last : latest_hour (first ∷ second ∷ third ∷ []) ≡ 10041216
unfolding first second third airtime_of
hour_of_the_last = refl

pub asked_hour : opening_of (Some 7) (first ∷ []) ≡ 7
asked_hour = refl

pub hour_of_nothing : opening_of None [] ≡ 0
hour_of_nothing = refl

-- the floor's line, in the hour alone
pub floor_in_the_hour : floor_lines 3600 0 ≡ codes "<path class=\"floor\" d=\"M1 0V600000\"/>"
    ∷ codes "<text class=\"right\" transform=\"scale(1000)\" x=\"994\" y=\"222\">dashed line: floor 3600 us</text>" ∷ []
unfolding digits
floor_in_the_hour = refl

pub floor_behind_the_hour : floor_lines 3600000000 0
    ≡ codes "<text class=\"right\" transform=\"scale(1000)\" x=\"994\" y=\"222\">floor 3600000000 us, not in this hour</text>" ∷ []
unfolding digits
floor_behind_the_hour = refl

-- one at the opening of the hour is in it, one at its end is not
pub ends_of_the_hour : members_of_hour (first ∷ second ∷ third ∷ []) 10000000 ≡ first ∷ second ∷ []
unfolding first second third
ends_of_the_hour = refl

module _ (law : PictureShowsHour) where
  pub each_mark_is_a_member_s : (b : Book) (t : ℕ)
      → filter is_mark (picture_lines b t) ≡ map (mark_line t) (members_of_hour b.list t)
  each_mark_is_a_member_s b t = (law b t).marks

  pub marks_of_two : filter is_mark (picture_lines (keeping (first ∷ second ∷ third ∷ [])) 10000000)
      ≡ mark_line 10000000 first ∷ mark_line 10000000 second ∷ []
  unfolding first second third
  marks_of_two = (law (keeping (first ∷ second ∷ third ∷ [])) 10000000).marks

  pub each_begins : All (BeginsIn 10000000) (members_of_hour (first ∷ second ∷ third ∷ []) 10000000)
  each_begins = (law (keeping (first ∷ second ∷ third ∷ [])) 10000000).begin

  pub first_is_there : Contains (members_of_hour (first ∷ second ∷ third ∷ []) 10000000) first
  unfolding first second third
  first_is_there =
      (law (keeping (first ∷ second ∷ third ∷ [])) 10000000).each first (zero, omega arith, refl) (omega arith, omega arith)

  pub first_is_kept : Contains (members_of_hour (first ∷ second ∷ third ∷ []) 10000000) first
      → Contains (first ∷ second ∷ third ∷ []) first
  first_is_kept = (law (keeping (first ∷ second ∷ third ∷ [])) 10000000).kept first
