use Rattle.std.specs.Prelude.{ℕ, ◌+◌, max, List, [], ◌∷◌}
use Rattle.resv_list.specs.declared.reservation.Reservation.{Reservation}
use Rattle.resv_list.specs.Reservations.{end_of}
use Rattle.gateway_book.specs.Book.{Book, ticked}

-- How long a gateway stays silent when a server goes on, in microseconds.
--
-- A gateway keeps what it was asked for before a restart, and sends it by its own counter. A server places the first packet of a
-- session 2 s back, since it may be as late. So by the clock of the server that goes on a transmission may end up to 2 s later
-- than by that of the one which booked it.

abbrev pub late_by : ℕ
late_by = 2000000

-- from when on all of these have ended by either clock, each with the gap behind it
abbrev pub silent_until : ℕ → List Reservation → ℕ
silent_until gap [] = 0
silent_until gap (r ∷ rs) = max (end_of r + gap + late_by) (silent_until gap rs)

-- the book once its floor is there
abbrev pub silenced : Book → Book
silenced b = ticked b (silent_until b.rules.gap b.list)
