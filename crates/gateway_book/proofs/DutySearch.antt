use Rattle.std.specs.Prelude.{ℕ, ◌≡◌, ◌+◌, ◌≤◌, min, Bool, true, false, ◌&&◌, List, [], ◌∷◌, Option}
use Rattle.std.specs.Prelude.{Some, None, map, filter, find, cond, if◌then◌else◌, refl}
use Rattle.std.specs.Option.{option_map, option_or}
use Rattle.std.proofs.Common.{sym, ap, ◌∙◌, arith}
use Rattle.std.proofs.lemmas.Bool.Decides.{nat_tests}
use Rattle.radio_bands.specs.declared.band.Band.{Band}
use Rattle.radio_bands.specs.Band.{hour, limit_of}
use Rattle.resv_list.specs.declared.reservation.Reservation.{Reservation}
use Rattle.resv_list.proofs.Walk.{found_passes}
use Rattle.resv_list.specs.Reservations.{start_of, is_in, begun, IsByStart}
use Rattle.resv_list.specs.Hours.{reach, starts_in}
use Rattle.gateway_book.specs.Least.{least}
use Rattle.gateway_book.proofs.SpacedLaws.{least-find}
use Rattle.gateway_book.specs.Duty.{is_within_hour, would_pass, is_overfull, full_hour, opens_full}
use Rattle.gateway_book.proofs.DutyRow.{begun_wider, duty_row_is_exact}

-- The full hour that the definition answers, as the first member that opens one, or the start's own.

-- the starts that pass, of the members of the band, are those of the members that open a full hour
passing_by : (test : ℕ → Bool) (band : Band) (r : Reservation) (rs : List Reservation) (p q : Bool) → is_in band r ≡ p
    → test r.start ≡ q → filter test (starts_in rs band) ≡ map start_of (filter (λ s. is_in band s && test s.start) rs)
    → filter test (map start_of (cond p (r ∷ filter (is_in band) rs) (filter (is_in band) rs)))
    ≡ map start_of (cond (p && q) (r ∷ filter (λ s. is_in band s && test s.start) rs)
    (filter (λ s. is_in band s && test s.start) rs))
passing_by test band r rs true true e f h = rw (f, h) refl
passing_by test band r rs true false e f h = rw f h
passing_by test band r rs false q e f h = h

pub passing : (test : ℕ → Bool) (band : Band) (l : List Reservation)
    → filter test (starts_in l band) ≡ map start_of (filter (λ s. is_in band s && test s.start) l)
passing test band [] = refl
passing test band (r ∷ rs) = passing_by test band r rs (is_in band r) (test r.start) refl refl (passing test band rs)

-- what the search answers: the first member that opens a full hour, or else the start itself
abbrev pub or_own : Bool → ℕ → Option Reservation → Option ℕ
or_own own start (Some m) = Some m.start
or_own own start None = cond own (Some start) None

own_hour : (start : ℕ) → is_within_hour start start ≡ true
own_hour start = grind (arith, nat_tests)

least_own : (own : Bool) (start : ℕ) (ns : List ℕ) (o : Option Reservation) → least ns ≡ option_map start_of o
    → ((m : Reservation) → o ≡ Some m → m.start ≤ start) → least (cond own (start ∷ ns) ns) ≡ or_own own start o
least_own true start ns None e h = rw e refl
least_own true start ns (Some m) e h = let k = h m refl in let q : min start m.start ≡ m.start = omega arith in rw (e, q) refl
least_own false start ns None e h = e
least_own false start ns (Some m) e h = e

pub full_hour-search : (l : List Reservation) (band : Band) (start airtime : ℕ) → IsByStart l
    → full_hour l band start airtime ≡ or_own (would_pass l band airtime start) start (find (opens_full l band start airtime) l)
unfolding full_hour
full_hour-search l band start airtime s =
    let test : ℕ → Bool = is_overfull l band start airtime in
    let own : test start ≡ would_pass l band airtime start = ap (λ b. b && would_pass l band airtime start) (own_hour start) in
    let firsts : least (filter test (starts_in l band)) ≡ option_map start_of (find (opens_full l band start airtime) l) =
    ap least (passing test band l) ∙ least-find start_of (opens_full l band start airtime) 0 l s in
    let early : (m : Reservation) → find (opens_full l band start airtime) l ≡ Some m → m.start ≤ start =
    λ m e. let p : opens_full l band start airtime m ≡ true = found_passes start_of (opens_full l band start airtime) m l e in
    grind (arith, nat_tests) in
    rw own (least_own (would_pass l band airtime start) start (filter test (starts_in l band))
    (find (opens_full l band start airtime) l) firsts early)

-- where the two hours round the start leave room, no hour is full
pub full_hour-spare : (l : List Reservation) (band : Band) (start airtime : ℕ)
    → begun band (reach start) (start + hour) l + airtime ≤ limit_of band → full_hour l band start airtime ≡ None
full_hour-spare l band start airtime h =
    sym ((duty_row_is_exact l band start airtime None).0 (λ t a b. let w =
    begun_wider band t (t + hour) (reach start) (start + hour) l (omega arith) (omega arith) in omega arith))

-- What the whole search answers, by what it found.

mapped : {X : Type 0} (f : ℕ → X) (own : Bool) (start : ℕ) (o : Option Reservation)
    → option_map f (or_own own start o)
    ≡ option_or (option_map (λ r. f r.start) o) (if own then Some (f start) else None)
mapped f true start None = refl
mapped f false start None = refl
mapped f own start (Some m) = refl

pub full_hour-mapped : {X : Type 0} (f : ℕ → X) (l : List Reservation) (band : Band) (start airtime : ℕ) → IsByStart l
    → option_map f (full_hour l band start airtime)
    ≡ option_or (option_map (λ r. f r.start) (find (opens_full l band start airtime) l))
    (if would_pass l band airtime start then Some (f start) else None)
full_hour-mapped f l band start airtime s =
    ap (option_map f) (full_hour-search l band start airtime s)
    ∙ mapped f (would_pass l band airtime start) start (find (opens_full l band start airtime) l)
