use Rattle.std.specs.Prelude.{ℕ, ◌≡◌, ◌+◌, ◌<◌, ◌≤◌, max, nat_lt, nat_le, Bool, true, false, ◌&&◌, List, ◌∷◌, Some, None}
use Rattle.std.specs.Prelude.{map, find}
use Rattle.std.specs.Prelude.{cond, refl}
use Rattle.std.proofs.Common.{ap, ◌∙◌, sym, arith}
use Rattle.std.proofs.lemmas.Bool.{le-leb, lt-leb, le-ltb, lt-ltb}
use Rattle.radio_bands.specs.declared.band.Band.{Band}
use Rattle.resv_list.specs.declared.reservation.Reservation.{Reservation}
use Rattle.resv_list.specs.Sorted.{rest_from}
use Rattle.resv_list.specs.Reservations.{start_of, is_in, spent}
use Rattle.resv_list.specs.Hours.{starts_in, is_over, greatest}
use Rattle.resv_list.proofs.Walk.{find_above_none, found_first, found_not, IsNext}

-- The hours that members open.

-- a member outside of the stretch isn't looked for
pub is_over-before : (l : List Reservation) (band : Band) (from to most : ℕ) (r : Reservation) → r.start < from
    → is_over l band from to most r ≡ false
is_over-before l band from to most r h = by (is_in band r) (lt-leb from r.start h)
  where
    by : (p : Bool) → nat_le from r.start ≡ false
        → (p && nat_le from r.start && nat_lt r.start to && nat_lt most (spent l band r.start)) ≡ false
    by true e = rw e refl
    by false e = refl

pub is_over-after : (l : List Reservation) (band : Band) (from to most : ℕ) (r : Reservation) → to ≤ r.start
    → is_over l band from to most r ≡ false
is_over-after l band from to most r h = by (is_in band r && nat_le from r.start) (le-ltb r.start to h)
  where
    by : (p : Bool) → nat_lt r.start to ≡ false → (p && nat_lt r.start to && nat_lt most (spent l band r.start)) ≡ false
    by true e = rw e refl
    by false e = refl

-- of one in the stretch only its own hour is asked for
pub is_over-within : (l : List Reservation) (band : Band) (from to most : ℕ) (r : Reservation) → from ≤ r.start → r.start < to
    → is_over l band from to most r ≡ nat_lt most (cond (is_in band r) (spent l band r.start) 0)
is_over-within l band from to most r h g = by (is_in band r) (le-leb from r.start h) (lt-ltb r.start to g)
  where
    by : (p : Bool) → nat_le from r.start ≡ true → nat_lt r.start to ≡ true
        → (p && nat_le from r.start && nat_lt r.start to && nat_lt most (spent l band r.start))
        ≡ nat_lt most (cond p (spent l band r.start) 0)
    by true e f = rw (e, f) refl
    by false e f = sym (le-ltb most 0 (omega arith))

-- what a member's own hour counts, where it is one of the band
pub low_hour : (p : Bool) (sum most : ℕ) → sum ≤ most → cond p sum 0 ≤ most
low_hour true sum most h = h
low_hour false sum most h = omega arith

pub other_hour : (p : Bool) (sum most : ℕ) → p ≡ false → cond p sum 0 ≤ most
other_hour true sum most e = absurd (cc)
other_hour false sum most e = omega arith

-- Steps of a walk: `m` is the member that it finds next from `at` on.

pub over_none : (l : List Reservation) (band : Band) (from to most at : ℕ) (m : Reservation) → IsNext start_of l at m
    → to ≤ m.start → find (is_over l band from to most) (rest_from start_of at l) ≡ None
over_none l band from to most at m n h =
    ap (find (is_over l band from to most)) n.rest
    ∙ find_above_none start_of (is_over l band from to most) to m.start (m ∷ rest_from start_of (m.start + 1) l) h
    (omega arith, n.rises) (λ r g. is_over-after l band from to most r g)

pub over_here : (l : List Reservation) (band : Band) (from to most at : ℕ) (m : Reservation) → IsNext start_of l at m
    → from ≤ at → m.start < to → is_in band m ≡ true → most < spent l band m.start
    → find (is_over l band from to most) (rest_from start_of at l) ≡ Some m
over_here l band from to most at m n f h e g =
    ap (find (is_over l band from to most)) n.rest
    ∙ found_first start_of (is_over l band from to most) m (rest_from start_of (m.start + 1) l)
    (is_over-within l band from to most m (omega (arith, f, n.later)) h ∙ rw e (lt-ltb most (spent l band m.start) g))

pub over_later : (l : List Reservation) (band : Band) (from to most at : ℕ) (m : Reservation) → IsNext start_of l at m
    → from ≤ at → m.start < to → cond (is_in band m) (spent l band m.start) 0 ≤ most
    → find (is_over l band from to most) (rest_from start_of at l)
    ≡ find (is_over l band from to most) (rest_from start_of (m.start + 1) l)
over_later l band from to most at m n f h g =
    ap (find (is_over l band from to most)) n.rest
    ∙ found_not start_of (is_over l band from to most) m (rest_from start_of (m.start + 1) l)
    (is_over-within l band from to most m (omega (arith, f, n.later)) h
    ∙ le-ltb most (cond (is_in band m) (spent l band m.start) 0) g)

-- the greatest, with one more member in front
pub greatest-cons : (f : ℕ → ℕ) (band : Band) (r : Reservation) (rs : List Reservation) (p : Bool) → is_in band r ≡ p
    → greatest (map f (starts_in (r ∷ rs) band)) ≡ max (cond p (f r.start) 0) (greatest (map f (starts_in rs band)))
greatest-cons f band r rs true e = rw e refl
greatest-cons f band r rs false e = rw e (omega arith)

-- what a walk has found so far is `most`, and it finds `m` next
pub most_with : (f : ℕ → ℕ) (band : Band) (l : List Reservation) (most at so_far : ℕ) (m : Reservation) (p : Bool)
    → IsNext start_of l at m → is_in band m ≡ p → so_far ≡ max most (cond p (f m.start) 0)
    → max so_far (greatest (map f (starts_in (rest_from start_of (m.start + 1) l) band)))
    ≡ max most (greatest (map f (starts_in (rest_from start_of at l) band)))
most_with f band l most at so_far m p n e h =
    let rest : greatest (map f (starts_in (rest_from start_of at l) band))
    ≡ greatest (map f (starts_in (m ∷ rest_from start_of (m.start + 1) l) band)) =
    ap (λ (ms : List Reservation). greatest (map f (starts_in ms band))) n.rest in
    omega (arith, rest, h, greatest-cons f band m (rest_from start_of (m.start + 1) l) p e)
