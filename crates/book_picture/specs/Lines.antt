use Rattle.std.specs.Prelude.{ℕ, ◌+◌, ◌*◌, Bool, true, false, List, [], ◌∷◌, ◌++◌, map, codes, decimal, Option, Some, None}
use Rattle.radio_airtime.specs.DataRate.{number_of}
use Rattle.radio_bands.specs.declared.band.Band.{Band}
use Rattle.radio_bands.specs.declared.band.Band.TheVariants.{K, L, M, N, P, Q}
use Rattle.radio_bands.specs.Band.{limit_of, band_of}
use Rattle.resv_list.specs.declared.reservation.Reservation.{Reservation}
use Rattle.resv_list.specs.Reservations.{spent}
use Rattle.text_lines.specs.Line.{text_of}
use Rattle.gateway_book.specs.Book.{Book}
use Rattle.gateway_book.specs.Busiest.{busiest_of}
use Rattle.gateway_book.specs.Duty.{is_within_hour}
use Rattle.book_picture.specs.Fixed.{svg_line, style_lines, frame_lines, end_line}
use Rattle.book_picture.specs.Hour.{opening_of, members_of_hour}
use Rattle.book_picture.specs.Scale.{row_of, top_of, top_in, across, width_of, bar_of}

-- The lines of a picture: each has one element, and starts with its name.

-- the mark of a transmission in the hour that opens at t
abbrev pub mark_line : ℕ → Reservation → List ℕ
mark_line t r =
    codes "<rect class=\"d" ++ (decimal (number_of r.rate) ++ (codes "\" x=\"" ++ (decimal (across t r.start)
    ++ (codes "\" y=\"" ++ (decimal (top_in (band_of r.freq_hz r.rate) + 60000)
    ++ (codes "\" width=\"" ++ (decimal (width_of r) ++ codes "\" height=\"30000\"/>")))))))

-- the marks of the transmissions that begin in it
abbrev pub mark_lines : List Reservation → ℕ → List (List ℕ)
mark_lines l t = map (mark_line t) (members_of_hour l t)

-- the bar of a sub-band of which so much airtime begins in the hour: it is to the row's width as the airtime to the limit
abbrev pub bar_line : Band → ℕ → List ℕ
bar_line band airtime =
    codes "<rect class=\"bar\" x=\"0\" y=\"" ++ (decimal (top_of band + 34000) ++ (codes "\" width=\""
    ++ (decimal (bar_of band airtime) ++ codes "\" height=\"16000\"/>")))

-- the letter of a sub-band
abbrev pub letter_of : Band → List ℕ
letter_of K = codes "K"
letter_of L = codes "L"
letter_of M = codes "M"
letter_of N = codes "N"
letter_of P = codes "P"
letter_of Q = codes "Q"

-- its busiest hour of all, where a transmission of it is kept
abbrev pub busiest_words : Option (ℕ × ℕ) → List ℕ
busiest_words None = codes " us, nothing is kept</text>"
busiest_words (Some (from, sum)) =
    codes " us, busiest hour " ++ (decimal sum ++ (codes " us from " ++ (decimal from ++ codes " us</text>")))

-- the words of a sub-band: its letter, how much airtime begins in the hour, and its limit
abbrev pub label_words : Band → ℕ → List ℕ
label_words band airtime =
    codes "<text transform=\"scale(1000)\" x=\"8\" y=\"" ++ (decimal (row_of band * 100 + 22)
    ++ (codes "\"><tspan class=\"letter\">" ++ (letter_of band ++ (codes "</tspan> this hour " ++ (decimal airtime
    ++ (codes " us of " ++ decimal (limit_of band)))))))

-- the row of a sub-band
abbrev pub row_lines : List Reservation → ℕ → Band → List (List ℕ)
row_lines l t band =
    bar_line band (spent l band t) ∷ (label_words band (spent l band t) ++ busiest_words (busiest_of l band)) ∷ []

-- the rows of the lower three sub-bands, and of the upper three
abbrev pub lower_rows : List Reservation → ℕ → List (List ℕ)
lower_rows l t = row_lines l t K ++ (row_lines l t L ++ row_lines l t M)

abbrev pub upper_rows : List Reservation → ℕ → List (List ℕ)
upper_rows l t = row_lines l t N ++ (row_lines l t P ++ row_lines l t Q)

-- the gateway and the hour
abbrev pub hour_words : ℕ → ℕ → List ℕ
hour_words id t = codes "gateway " ++ (decimal id ++ (codes ", the hour from " ++ (decimal t ++ codes " us")))

abbrev pub title_line : ℕ → ℕ → List ℕ
title_line id t = codes "<title>airbook: " ++ (hour_words id t ++ codes "</title>")

abbrev pub caption_line : ℕ → ℕ → List ℕ
caption_line id t =
    codes "<text class=\"right\" transform=\"scale(1000)\" x=\"994\" y=\"122\">" ++ (hour_words id t ++ codes "</text>")

-- the floor, and its line where it lies in the hour
abbrev pub floor_by : Bool → ℕ → ℕ → List (List ℕ)
floor_by true floor t =
    (codes "<path class=\"floor\" d=\"M" ++ (decimal (across t floor) ++ codes " 0V600000\"/>"))
    ∷ (codes "<text class=\"right\" transform=\"scale(1000)\" x=\"994\" y=\"222\">dashed line: floor "
    ++ (decimal floor ++ codes " us</text>"))
    ∷ []
floor_by false floor t =
    (codes "<text class=\"right\" transform=\"scale(1000)\" x=\"994\" y=\"222\">floor "
    ++ (decimal floor ++ codes " us, not in this hour</text>"))
    ∷ []

abbrev pub floor_lines : ℕ → ℕ → List (List ℕ)
floor_lines floor t = floor_by (is_within_hour floor t) floor t

-- what stands before the lines that are always the same
abbrev pub opening_lines : ℕ → ℕ → ℕ → List (List ℕ)
opening_lines id floor t = (svg_line ∷ title_line id t ∷ caption_line id t ∷ []) ++ floor_lines floor t

-- all that stands before the marks
abbrev pub head_lines : Book → ℕ → List (List ℕ)
head_lines b t = (opening_lines b.id b.floor t ++ (style_lines ++ frame_lines)) ++ (lower_rows b.list t ++ upper_rows b.list t)

-- the picture of the hour that opens at t
abbrev pub picture_lines : Book → ℕ → List (List ℕ)
picture_lines b t = (head_lines b t ++ mark_lines b.list t) ++ (end_line ∷ [])

-- the picture of a book: of the hour that is asked for, or of the latest
abbrev pub picture_text : Book → Option ℕ → List ℕ
picture_text b from = text_of (picture_lines b (opening_of from b.list))
