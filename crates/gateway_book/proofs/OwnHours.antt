use Rattle.std.specs.Prelude.{ℕ, ◌≡◌, ◌+◌, ◌-◌, ◌<◌, ◌≤◌, nat_lt, nat_le, ◌==◌, Bool, true, false, ◌&&◌, List, [], ◌∷◌}
use Rattle.std.specs.Prelude.{Some, None}
use Rattle.std.specs.Prelude.{find, map, cond, Option, refl, Contains}
use Rattle.std.specs.Option.{option_map}
use Rattle.std.proofs.Common.{sym, ap, ◌∙◌, arith, zero, suc, subst}
use Rattle.std.proofs.lemmas.Bool.{le-leb, lt-ltb}
use Rattle.std.proofs.lemmas.Bool.Decides.{nat_tests}
use Rattle.radio_airtime.specs.Bounds.{airtime_of-positive}
use Rattle.radio_bands.specs.declared.band.Band.{Band}
use Rattle.radio_bands.specs.Band.{hour, limit_of}
use Rattle.resv_list.specs.declared.reservation.Reservation.{Reservation}
use Rattle.resv_list.specs.Fit.{last_end}
use Rattle.resv_list.specs.Reservations.{start_of, airtime_us, is_in, share, begun, spent, IsByStart}
use Rattle.resv_list.specs.Begun.{begun-cons}
use Rattle.resv_list.specs.Hours.{reach, starts_in, is_over, first_over, greatest, most_spent}
use Rattle.resv_list.proofs.BegunLemmas.{share_within}
use Rattle.resv_list.proofs.FilterLemmas.{find-alike, find-none}
use Rattle.resv_list.proofs.HourLemmas.{greatest-cons}
use Rattle.resv_list.proofs.Walk.{found_passes}
use Rattle.gateway_book.specs.Least.{least}
use Rattle.gateway_book.specs.Duty.{opens_full}
use Rattle.gateway_book.specs.Busiest.{busiest_of}
use Rattle.gateway_book.proofs.SpacedLaws.{least-find}
use Rattle.gateway_book.proofs.DutySearch.{passing}

-- What a book asks its roster of members' own hours, for every list.

counted : (p : Bool) (sum : ℕ) → p ≡ true → cond p sum 0 ≡ sum
counted true sum e = refl
counted false sum e = absurd (cc)

-- a member of the band is in the hour that it opens
its_share : (band : Band) (from to : ℕ) (l : List Reservation) (r : Reservation) → Contains l r → is_in band r ≡ true
    → from ≤ r.start → r.start < to → airtime_us r ≤ begun band from to l
its_share band from to [] r c e h g = absurd (omega (arith, c.1))
its_share band from to (x ∷ xs) r (zero, b, s) e h g =
    let P : Reservation → Type 0 = λ y. airtime_us r ≤ begun band from to (y ∷ xs) in
    let whole : share band from to r ≡ airtime_us r = share_within band from to r h g ∙ counted (is_in band r) (airtime_us r) e in
    subst P (sym s) (omega (arith, begun-cons band from to r xs, whole))
its_share band from to (x ∷ xs) r (suc k, b, s) e h g =
    omega (arith, begun-cons band from to x xs, its_share band from to xs r (k, omega (arith, b), s) e h g)

-- so that hour isn't empty
pub own_hour-holds : (l : List Reservation) (band : Band) (r : Reservation) → Contains l r → is_in band r ≡ true
    → 0 < spent l band r.start
own_hour-holds l band r c e =
    omega (
      arith,
      its_share band r.start (r.start + hour) l r c e (omega arith) (omega arith),
      airtime_of-positive r.rate r.len,
    )

-- The question for a full hour: which member of the last hour before the start leaves no room in its own hour?

opens_by : (start t : ℕ) → nat_le (reach start) t ≡ nat_lt start (t + hour)
opens_by start t = grind (arith, nat_tests)

begins_by : (start t : ℕ) → nat_lt t (start + 1) ≡ nat_le t start
begins_by start t = grind (arith, nat_tests)

no_room : (limit airtime sum : ℕ) → 0 < sum → nat_lt (limit - airtime) sum ≡ nat_lt limit (sum + airtime)
no_room limit airtime sum h = grind (arith, nat_tests)

swapped : (p q s : Bool) → (p && q && s) ≡ (q && p && s)
swapped true true s = refl
swapped true false s = refl
swapped false true s = refl
swapped false false s = refl

opens_over : (l : List Reservation) (band : Band) (start airtime : ℕ) (r : Reservation) (p : Bool) → is_in band r ≡ p
    → (p ≡ true → 0 < spent l band r.start)
    → is_over l band (reach start) (start + 1) (limit_of band - airtime) r ≡ opens_full l band start airtime r
opens_over l band start airtime r true e h =
    rw (e, opens_by start r.start, begins_by start r.start, no_room (limit_of band) airtime (spent l band r.start) (h refl))
    (swapped (nat_lt start (r.start + hour)) (nat_le r.start start) (nat_lt (limit_of band) (spent l band r.start + airtime)))
opens_over l band start airtime r false e h = rw e refl

first_over-full : (l : List Reservation) (band : Band) (start airtime : ℕ)
    → first_over band (reach start) (start + 1) (limit_of band - airtime) l ≡ find (opens_full l band start airtime) l
first_over-full l band start airtime =
    find-alike (is_over l band (reach start) (start + 1) (limit_of band - airtime)) (opens_full l band start airtime) l
    (λ r c. opens_over l band start airtime r (is_in band r) refl (λ e. own_hour-holds l band r c e))

-- it is the first that opens a full hour
pub full_hour-asked : (l : List Reservation) (band : Band) (start airtime first limit room : ℕ) (o : Option Reservation)
    → first ≡ reach start → limit ≡ limit_of band → room ≡ limit - airtime
    → o ≡ first_over band first (start + 1) room l → o ≡ find (opens_full l band start airtime) l
full_hour-asked l band start airtime first limit room o f h r e =
    e ∙ ap (λ (n : ℕ). first_over band n (start + 1) room l) f
    ∙ ap (λ (n : ℕ). first_over band (reach start) (start + 1) n l) (r ∙ ap (λ (n : ℕ). n - airtime) h)
    ∙ first_over-full l band start airtime

-- The question for the busiest hour: which member has the most in its own hour?

abbrev pub is_busiest : List Reservation → Band → Reservation → Bool
is_busiest l band r = is_in band r && (spent l band r.start == most_spent l band)

-- no member of the band has more than the most
own_at_most : (f : ℕ → ℕ) (band : Band) (l : List Reservation) (r : Reservation) → Contains l r → is_in band r ≡ true
    → f r.start ≤ greatest (map f (starts_in l band))
own_at_most f band [] r c e = absurd (omega (arith, c.1))
own_at_most f band (x ∷ xs) r (zero, b, s) e =
    let same : f x.start ≡ f r.start = ap (λ (y : Reservation). f y.start) s in
    omega (arith, same, greatest-cons f band x xs true (ap (is_in band) s ∙ e))
own_at_most f band (x ∷ xs) r (suc k, b, s) e =
    omega (arith, greatest-cons f band x xs (is_in band x) refl, own_at_most f band xs r (k, omega (arith, b), s) e)

as_much : (most sum : ℕ) → 0 < most → sum ≤ most → nat_lt (most - 1) sum ≡ (sum == most)
as_much most sum p h = grind (arith, nat_tests)

begins_early : (r : Reservation) → r.start < last_end
begins_early r = omega (arith, airtime_of-positive r.rate r.len, r.fit.timely)

most_over : (l : List Reservation) (band : Band) (r : Reservation) (p : Bool) → is_in band r ≡ p → 0 < most_spent l band
    → (p ≡ true → spent l band r.start ≤ most_spent l band)
    → is_over l band 0 last_end (most_spent l band - 1) r ≡ is_busiest l band r
most_over l band r true e h g =
    rw (
      e,
      le-leb 0 r.start (omega arith),
      lt-ltb r.start last_end (begins_early r),
      as_much (most_spent l band) (spent l band r.start) h (g refl),
    ) refl
most_over l band r false e h g = rw e refl

first_over-most : (l : List Reservation) (band : Band) → 0 < most_spent l band
    → first_over band 0 last_end (most_spent l band - 1) l ≡ find (is_busiest l band) l
first_over-most l band h =
    find-alike (is_over l band 0 last_end (most_spent l band - 1)) (is_busiest l band) l
    (λ r c. most_over l band r (is_in band r) refl h (λ e. own_at_most (spent l band) band l r c e))

busiest_of-find : (l : List Reservation) (band : Band) → IsByStart l
    → busiest_of l band ≡ option_map (λ from. (from, spent l band from)) (option_map start_of (find (is_busiest l band) l))
unfolding busiest_of
busiest_of-find l band s =
    let test : ℕ → Bool = λ t. spent l band t == most_spent l band in
    ap (option_map (λ from. (from, spent l band from)))
    (ap least (passing test band l) ∙ least-find start_of (is_busiest l band) 0 l s)

none_busiest : (l : List Reservation) (band : Band) (r : Reservation) (p : Bool) → is_in band r ≡ p
    → most_spent l band ≡ 0 → Contains l r → is_busiest l band r ≡ false
none_busiest l band r true e h c =
    absurd (omega (arith, h, own_hour-holds l band r c e, own_at_most (spent l band) band l r c e))
none_busiest l band r false e h c = rw e refl

-- where the most is nothing, the band has no member
pub busiest_of-none : (l : List Reservation) (band : Band) → IsByStart l → most_spent l band ≡ 0 → None ≡ busiest_of l band
busiest_of-none l band s h =
    sym (busiest_of-find l band s ∙ ap (λ o. option_map (λ from. (from, spent l band from)) (option_map start_of o))
    (find-none (is_busiest l band) l (λ r c. none_busiest l band r (is_in band r) refl h c)))

passes_both : (p : Bool) (a b : ℕ) → (p && (a == b)) ≡ true → a ≡ b
passes_both true a b e = grind (arith, nat_tests)
passes_both false a b e = absurd (cc)

asked_by : (l : List Reservation) (band : Band) (o : Option Reservation) → find (is_busiest l band) l ≡ o
    → option_map {U = ℕ × ℕ} (λ r. (r.start, most_spent l band)) o
    ≡ option_map (λ from. (from, spent l band from)) (option_map start_of o)
asked_by l band None e = refl
asked_by l band (Some m) e =
    let most : spent l band m.start ≡ most_spent l band =
    passes_both (is_in band m) (spent l band m.start) (most_spent l band)
    (found_passes start_of (is_busiest l band) m l e) in
    rw most refl

-- else it is the first member that has as much
pub busiest_of-asked : (l : List Reservation) (band : Band) (o : Option Reservation) → IsByStart l → 0 < most_spent l band
    → o ≡ first_over band 0 last_end (most_spent l band - 1) l
    → option_map {U = ℕ × ℕ} (λ r. (r.start, most_spent l band)) o ≡ busiest_of l band
busiest_of-asked l band o s h e =
    let found : find (is_busiest l band) l ≡ o = sym (e ∙ first_over-most l band h) in
    asked_by l band o found
    ∙ sym (busiest_of-find l band s ∙ ap (λ u. option_map (λ from. (from, spent l band from)) (option_map start_of u)) found)
