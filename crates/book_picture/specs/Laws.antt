use Rattle.std.specs.Prelude.{ℕ, ◌≡◌, ◌+◌, ◌<◌, ◌≤◌, Bool, List, codes, map, filter, nat_eq, All, Contains}
use Rattle.std.specs.List.{starts_with}
use Rattle.radio_bands.specs.Band.{hour}
use Rattle.resv_list.specs.declared.reservation.Reservation.{Reservation}
use Rattle.gateway_book.specs.Book.{Book}
use Rattle.book_picture.specs.Hour.{members_of_hour}
use Rattle.book_picture.specs.Lines.{mark_line, picture_lines}

-- The law of a picture: what it shows of the transmissions of an hour.

-- whether a line is a mark: a rect, whose class begins with `d`
abbrev pub is_mark : List ℕ → Bool
is_mark line = starts_with nat_eq line (codes "<rect class=\"d")

-- the transmission begins in the hour that opens at t
abbrev pub BeginsIn : ℕ → Reservation → Type 0
BeginsIn t r = (t ≤ r.start) × (r.start < t + hour)

-- the picture has one mark for each transmission of the hour, at its place and as wide as defined, in their order, and no other;
-- and these are the book's transmissions that begin in the hour
pub record ShowsHour (b : Book) (t : ℕ) : Type 0 where
  pub marks : filter is_mark (picture_lines b t) ≡ map (mark_line t) (members_of_hour b.list t)
  pub begin : All (BeginsIn t) (members_of_hour b.list t)
  pub each : (r : Reservation) → Contains b.list r → BeginsIn t r → Contains (members_of_hour b.list t) r
  pub kept : (r : Reservation) → Contains (members_of_hour b.list t) r → Contains b.list r

-- the law: so does every picture
abbrev pub PictureShowsHour : Type 0
PictureShowsHour = (b : Book) (t : ℕ) → ShowsHour b t
