use Rattle.std.specs.Prelude.{ℕ, List, [], ◌∷◌, ◌++◌, None, codes, decimal}
use Rattle.resv_list.specs.declared.reservation.Reservation.{Reservation}
use Rattle.gateway_book.specs.declared.totals.Totals.{Totals}
use Rattle.text_words.specs.Words.{spaced}
use Rattle.text_words.specs.Busiest.{all_busiest_lines}

-- the report of a book at the end of its output

-- what the book has counted
abbrev pub totals_lines : Totals → List (List ℕ)
totals_lines totals =
    spaced (codes "booked" ∷ decimal totals.booked ∷ [])
    ∷ spaced (codes "cancelled" ∷ decimal totals.cancelled ∷ [])
    ∷ spaced (codes "retired" ∷ decimal totals.retired ∷ [])
    ∷ spaced (codes "kept" ∷ decimal totals.kept ∷ decimal totals.kept_airtime ∷ [])
    ∷ spaced (codes "floor" ∷ decimal totals.floor ∷ [])
    ∷ []

-- the whole report
abbrev pub report_of : Totals → List Reservation → List (List ℕ)
report_of totals l = totals_lines totals ++ all_busiest_lines None l
