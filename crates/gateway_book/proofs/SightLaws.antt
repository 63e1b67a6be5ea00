use Rattle.std.specs.Prelude.{ℕ, ◌≡◌, ◌+◌, ◌<◌, ◌≤◌, nat_lt, nat_le, Bool, true, false, ◌&&◌, List, [], ◌∷◌}
use Rattle.std.specs.Prelude.{Option, Some, None, filter, map, cond}
use Rattle.std.proofs.Common.{refl, sym, ap, ◌∙◌, arith}
use Rattle.std.proofs.lemmas.Bool.{leb-false}
use Rattle.std.proofs.lemmas.Bool.Decides.{nat_tests}
use Rattle.radio_airtime.specs.Bounds.{airtime_of-short}
use Rattle.radio_bands.specs.declared.band.Band.{Band}
use Rattle.radio_bands.specs.Band.{hour, limit_of}
use Rattle.resv_list.specs.declared.reservation.Reservation.{Reservation}
use Rattle.resv_list.specs.Begun.{begun-cons}
use Rattle.resv_list.specs.Reservations.{start_of, is_in, share, begun, spent}
use Rattle.resv_list.proofs.BegunLemmas.{share_before}
use Rattle.resv_list.proofs.FilterLemmas.{filter-alike, filter-stronger}
use Rattle.resv_list.proofs.SortLemmas.{HaveOwnKeys, own_filtered, value-sorted}
use Rattle.gateway_book.specs.Disjoint.{overlaps, most_gap, rested_from}
use Rattle.gateway_book.specs.Least.{least, at_most, first_start}
use Rattle.gateway_book.specs.Kept.{is_kept, kept}
use Rattle.resv_list.specs.Hours.{starts_in}
use Rattle.gateway_book.specs.Duty.{is_within_hour, would_pass, is_overfull, full_hour}
use Rattle.gateway_book.specs.Answer.{overlap}

-- What is out of sight from a moment on: what is asked of a list by that moment is asked of its kept part.

-- members with starts of their own
abbrev pub AreOwn : List Reservation → Type 0
AreOwn l = HaveOwnKeys start_of l

-- two that pass, or one of them, may be asked in either order for the least start
least_change : (s t : Bool) (x z : ℕ) (o : Option ℕ)
    → cond s (Some (at_most x (cond t (Some (at_most z o)) o))) (cond t (Some (at_most z o)) o)
    ≡ cond t (Some (at_most z (cond s (Some (at_most x o)) o))) (cond s (Some (at_most x o)) o)
least_change true true x z None = ap Some (omega arith)
least_change true true x z (Some m) = ap Some (omega arith)
least_change true false x z o = refl
least_change false true x z o = refl
least_change false false x z o = refl

-- the least start of one member more
abbrev least_with : (Reservation → Bool) → Reservation → Option ℕ → Option ℕ
least_with test r o = cond (test r) (Some (at_most r.start o)) o

least_made_by : (test : Reservation → Bool) (r : Reservation) (l : List Reservation) (t : Bool)
    → least (map start_of (cond t (r ∷ filter test l) (filter test l)))
    ≡ cond t (Some (at_most r.start (first_start test l))) (first_start test l)
least_made_by test r l true = refl
least_made_by test r l false = refl

least_made : (test : Reservation → Bool) (r : Reservation) (l : List Reservation)
    → first_start test (r ∷ l) ≡ least_with test r (first_start test l)
least_made test r l = least_made_by test r l (test r)

-- the least start of those that pass, where only what is kept passes
pub first_start-kept : (test : Reservation → Bool) (l : List Reservation) (floor : ℕ) → AreOwn l
    → ((r : Reservation) → test r ≡ true → is_kept floor r ≡ true) → first_start test (kept l floor) ≡ first_start test l
unfolding kept
first_start-kept test l floor o h =
    value-sorted start_of (first_start test) (least_with test) (least_made test)
    (λ x z y n. least_change (test x) (test z) x.start z.start y) (filter (is_kept floor) l)
    (own_filtered start_of (is_kept floor) l o)
    ∙ ap (λ (m : List Reservation). least (map start_of m)) (filter-stronger test (is_kept floor) h l)

-- what is still on air, or whose gap has not passed, at a moment no earlier than the floor is kept: airtime and gap are
-- together below an hour
overlap_kept : (gap floor from to : ℕ) → gap ≤ most_gap → floor ≤ from → (r : Reservation)
    → overlaps start_of (rested_from gap) from to r ≡ true → is_kept floor r ≡ true
overlap_kept gap floor from to g h r e =
    let s = airtime_of-short r.rate r.len r.fit.sized in
    grind (arith, nat_tests)

pub overlap-kept : (gap : ℕ) (l : List Reservation) (floor from to : ℕ) → gap ≤ most_gap → AreOwn l → floor ≤ from
    → overlap gap (kept l floor) from to ≡ overlap gap l from to
unfolding overlap
overlap-kept gap l floor from to g o h =
    first_start-kept (overlaps start_of (rested_from gap) from (to + gap)) l floor o
    (overlap_kept gap floor from (to + gap) g h)

-- what begins within an hour that ends after the floor is kept
begun_kept_by : (band : Band) (floor from : ℕ) (r : Reservation) (l : List Reservation) (t : Bool) → is_kept floor r ≡ t
    → floor ≤ from + hour → begun band from (from + hour) (filter (is_kept floor) l) ≡ begun band from (from + hour) l
    → begun band from (from + hour) (cond t (r ∷ filter (is_kept floor) l) (filter (is_kept floor) l))
    ≡ begun band from (from + hour) (r ∷ l)
begun_kept_by band floor from r l true e h rest =
    omega (arith, begun-cons band from (from + hour) r (filter (is_kept floor) l), begun-cons band from (from + hour) r l, rest)
begun_kept_by band floor from r l false e h rest =
    let early : r.start + hour < floor = leb-false floor (r.start + hour) e in
    omega (arith, begun-cons band from (from + hour) r l, share_before band from (from + hour) r (omega arith), rest)

begun_kept : (band : Band) (floor from : ℕ) (l : List Reservation) → floor ≤ from + hour
    → begun band from (from + hour) (filter (is_kept floor) l) ≡ begun band from (from + hour) l
begun_kept band floor from [] h = refl
begun_kept band floor from (r ∷ l) h = begun_kept_by band floor from r l (is_kept floor r) refl h (begun_kept band floor from l h)

pub spent-kept : (l : List Reservation) (band : Band) (floor from : ℕ) → AreOwn l → floor ≤ from + hour
    → spent (kept l floor) band from ≡ spent l band from
unfolding kept
spent-kept l band floor from o h =
    value-sorted start_of (begun band from (from + hour)) (λ r n. share band from (from + hour) r + n)
    (begun-cons band from (from + hour)) (λ x z y n. omega arith) (filter (is_kept floor) l)
    (own_filtered start_of (is_kept floor) l o)
    ∙ begun_kept band floor from l h

-- an hour that holds a moment no earlier than the floor would be overfull exactly where it would with what is kept alone
overfull_by : (l : List Reservation) (band : Band) (floor start airtime t : ℕ) (w : Bool) → is_within_hour start t ≡ w
    → AreOwn l → floor ≤ start → (w && would_pass (kept l floor) band airtime t) ≡ (w && would_pass l band airtime t)
overfull_by l band floor start airtime t false e o h = refl
overfull_by l band floor start airtime t true e o h =
    let late : start < t + hour = grind (arith, nat_tests) in
    ap (λ (n : ℕ). nat_lt (limit_of band) (n + airtime)) (spent-kept l band floor t o (omega arith))

overfull_kept : (l : List Reservation) (band : Band) (floor start airtime : ℕ) → AreOwn l → floor ≤ start → (t : ℕ)
    → is_overfull (kept l floor) band start airtime t ≡ is_overfull l band start airtime t
overfull_kept l band floor start airtime o h t = overfull_by l band floor start airtime t (is_within_hour start t) refl o h

-- the starts that pass, of members that do
starts_by : (p : ℕ → Bool) (q : Reservation → Bool) (r : Reservation) (l : List Reservation) (t u : Bool)
    → filter p (map start_of (filter q l)) ≡ map start_of (filter (λ s. q s && p s.start) l) → p r.start ≡ u
    → filter p (map start_of (cond t (r ∷ filter q l) (filter q l)))
    ≡ map start_of (cond (t && u) (r ∷ filter (λ s. q s && p s.start) l) (filter (λ s. q s && p s.start) l))
starts_by p q r l true true e f = rw f (ap (λ (ns : List ℕ). r.start ∷ ns) e)
starts_by p q r l true false e f = rw f e
starts_by p q r l false u e f = e

starts_passing : (p : ℕ → Bool) (q : Reservation → Bool) (l : List Reservation)
    → filter p (map start_of (filter q l)) ≡ map start_of (filter (λ s. q s && p s.start) l)
starts_passing p q [] = refl
starts_passing p q (r ∷ l) = starts_by p q r l (q r) (p r.start) (starts_passing p q l) refl

first_by : (p : ℕ → Bool) (start : ℕ) (ns : List ℕ) (t : Bool)
    → least (cond t (start ∷ filter p ns) (filter p ns))
    ≡ cond t (Some (at_most start (least (filter p ns)))) (least (filter p ns))
first_by p start ns true = refl
first_by p start ns false = refl

-- the least of a start and of the starts of members, of those that pass
full_as : (p : ℕ → Bool) (l : List Reservation) (band : Band) (start : ℕ)
    → least (filter p (start ∷ starts_in l band))
    ≡ cond (p start) (Some (at_most start (first_start (λ r. is_in band r && p r.start) l)))
    (first_start (λ r. is_in band r && p r.start) l)
full_as p l band start =
    first_by p start (starts_in l band) (p start)
    ∙ ap (λ (ns : List ℕ). cond (p start) (Some (at_most start (least ns))) (least ns)) (starts_passing p (is_in band) l)

opening_kept : (l : List Reservation) (band : Band) (floor start airtime : ℕ) → floor ≤ start → (r : Reservation)
    → (is_in band r && is_overfull l band start airtime r.start) ≡ true → is_kept floor r ≡ true
opening_kept l band floor start airtime h r e =
    by (is_in band r) (nat_le r.start start) (would_pass l band airtime r.start) e
  where
    by : (p q u : Bool) → (p && (q && nat_lt start (r.start + hour) && u)) ≡ true → is_kept floor r ≡ true
    by true true true f = grind (arith, nat_tests)
    by true true false f = grind (arith, nat_tests)
    by true false u f = absurd (cc)
    by false q u f = absurd (cc)

pub full_hour-kept : (l : List Reservation) (band : Band) (floor start airtime : ℕ) → AreOwn l → floor ≤ start
    → full_hour (kept l floor) band start airtime ≡ full_hour l band start airtime
unfolding full_hour
full_hour-kept l band floor start airtime o h =
    let p : ℕ → Bool = is_overfull l band start airtime in
    let test : Reservation → Bool = λ r. is_in band r && p r.start in
    let same : first_start test (kept l floor) ≡ first_start test l =
    first_start-kept test l floor o (opening_kept l band floor start airtime h) in
    ap least (filter-alike (is_overfull (kept l floor) band start airtime) p (overfull_kept l band floor start airtime o h)
    (start ∷ starts_in (kept l floor) band))
    ∙ full_as p (kept l floor) band start
    ∙ ap (λ (f : Option ℕ). cond (p start) (Some (at_most start f)) f) same
    ∙ sym (full_as p l band start)
