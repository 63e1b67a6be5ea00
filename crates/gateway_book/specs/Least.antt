use Rattle.std.specs.Prelude.{ℕ, min, Bool, List, [], ◌∷◌, Option, Some, None, map, filter}
use Rattle.resv_list.specs.declared.reservation.Reservation.{Reservation}
use Rattle.resv_list.specs.Reservations.{start_of}

abbrev pub at_most : ℕ → Option ℕ → ℕ
at_most n None = n
at_most n (Some m) = min n m

-- the least of some numbers
abbrev pub least : List ℕ → Option ℕ
least [] = None
least (n ∷ ns) = Some (at_most n (least ns))

-- the least start of a member that passes the test
abbrev pub first_start : (Reservation → Bool) → List Reservation → Option ℕ
first_start test l = least (map start_of (filter test l))
