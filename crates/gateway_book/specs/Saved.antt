use Rattle.std.specs.Prelude.{ℕ, ◌==◌, if◌then◌else◌, List, [], ◌∷◌, ◌++◌, length, map, codes, decimal}
use Rattle.radio_airtime.specs.DataRate.{number_of}
use Rattle.resv_list.specs.declared.reservation.Reservation.{Reservation}
use Rattle.resv_list.specs.Reservations.{net}
use Rattle.text_lines.specs.Line.{text_of}
use Rattle.text_lines.specs.Words.{spaced}
use Rattle.gateway_book.specs.Answer.{Rules}
use Rattle.gateway_book.specs.Book.{Book}

-- The text in which a book is saved, which has one spelling: words parted by single spaces, numbers without leading zeros,
-- and a line feed after every line.

-- what is saved of a book
pub record Saved : Type 0 where
  pub id : ℕ
  pub rules : Rules
  pub floor : ℕ
  pub list : List Reservation

-- what is saved of a book
abbrev pub saved_of : Book → Saved
saved_of b = record { id = b.id; rules = b.rules; floor = b.floor; list = b.list }

-- the book that is opened again: it has booked what it keeps, and cancelled and retired nothing
abbrev pub opened_again : Saved → Book
opened_again s =
    record {
      id = s.id;
      rules = s.rules;
      floor = s.floor;
      list = s.list;
      booked = net s.list;
      cancelled = 0;
      retired = 0;
    }

-- the first line
abbrev pub version_words : ℕ → List (List ℕ)
version_words version = codes "airbook" ∷ decimal version ∷ []

-- the gateway's gap, which version 1 does not tell: it is 0 there
abbrev pub gap_words : ℕ → ℕ → List (List ℕ)
gap_words version gap = if version == 1 then [] else decimal gap ∷ []

-- the second line
abbrev pub gateway_words : ℕ → Saved → List (List ℕ)
gateway_words version s =
    codes "gateway" ∷ decimal s.id ∷ decimal s.rules.cap ∷ decimal s.floor ∷ gap_words version s.rules.gap

-- a member's line
abbrev pub member_words : Reservation → List (List ℕ)
member_words r =
    codes "r" ∷ decimal r.number ∷ decimal r.start ∷ decimal r.freq_hz ∷ decimal (number_of r.rate) ∷ decimal r.len ∷ []

-- the last line
abbrev pub end_words : List Reservation → List (List ℕ)
end_words l = codes "end" ∷ decimal (length l) ∷ []

-- the lines of some members, each with its end
abbrev pub members_text : List Reservation → List ℕ
members_text l = text_of (map spaced (map member_words l))

-- the lines of a version
abbrev pub lines_in : ℕ → Saved → List (List ℕ)
lines_in version s =
    map spaced (version_words version ∷ gateway_words version s ∷ map member_words s.list ++ end_words s.list ∷ [])

-- the text of a version
abbrev pub text_in : ℕ → Saved → List ℕ
text_in version s = text_of (lines_in version s)

-- what is written of a book: version 2
abbrev pub saved_text : Book → List ℕ
saved_text b = text_in 2 (saved_of b)
