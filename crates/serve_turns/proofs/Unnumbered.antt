-- A book answers and keeps the same where its members have no numbers, as a journal has them.
use Rattle.std.proofs.Common.{◌≡◌, ◌∙◌, ◌+◌, Bool, true, false, List, [], ◌∷◌, ℕ, None, ap, arith, cond, filter, length, map, refl, sym}
use Rattle.std.specs.Prelude.{◌&&◌, nat_lt}
use Rattle.std.specs.Option.{option_and_then, option_map}
use Rattle.std.proofs.lemmas.List.{length-map}
use Rattle.radio_bands.specs.declared.band.Band.{Band}
use Rattle.radio_bands.specs.Band.{band_of, hour, limit_of}
use Rattle.resv_list.specs.declared.reservation.Reservation.{Reservation}
use Rattle.resv_list.specs.Begun.{begun-cons}
use Rattle.resv_list.specs.Hours.{starts_in}
use Rattle.resv_list.specs.Reservations.{IsByStart, airtime_us, begun, is_in, place, spent, start_of}
use Rattle.resv_list.specs.Sorted.{RisesFrom}
use Rattle.gateway_book.specs.declared.ask.Ask.{Ask}
use Rattle.gateway_book.specs.declared.refusal.Refusal.TheVariants.{DutyFull}
use Rattle.gateway_book.specs.Answer.{IsAsked, Rules, ask_airtime, ask_end, duty_full, overlap, refusal_of}
use Rattle.gateway_book.specs.Disjoint.{overlaps, rested_from}
use Rattle.gateway_book.specs.Duty.{full_hour, is_overfull, is_within_hour}
use Rattle.gateway_book.specs.Kept.{is_kept, kept}
use Rattle.gateway_book.specs.Least.{least}
use Rattle.gateway_book.specs.Step.{State, book_step, terms_at}
use Rattle.gateway_book.proofs.AnswerLaws.{book_step-accepted}
use Rattle.gateway_book.proofs.KeptLaws.{kept-filtered}
use Rattle.serve_journal.specs.RenewalLaw.{unnumbered}

-- without numbers
abbrev pub bare : List Reservation → List Reservation
bare l = map unnumbered l

abbrev pub bare_ask : Ask → Ask
bare_ask ask = record ask { number = 0 }

abbrev pub bare_state : State → State
bare_state s = record s { list = bare s.list }

-- lists

pub rises_bare : (low : ℕ) (l : List Reservation) → RisesFrom start_of low l → RisesFrom start_of low (bare l)
rises_bare low [] h = tt
rises_bare low (r ∷ rs) h = (h.0, rises_bare (r.start + 1) rs h.1)

starts_bare : (l : List Reservation) → map start_of (bare l) ≡ map start_of l
starts_bare [] = refl
starts_bare (r ∷ rs) = ap (λ t. r.start ∷ t) (starts_bare rs)

begun_bare : (band : Band) (from to : ℕ) (l : List Reservation) → begun band from to (bare l) ≡ begun band from to l
begun_bare band from to [] = refl
begun_bare band from to (r ∷ rs) =
    omega (arith, begun-cons band from to r rs, begun-cons band from to (unnumbered r) (bare rs), begun_bare band from to rs)

filter_by : (r : Reservation) (rs : List Reservation) (t : Bool) → cond t (unnumbered r ∷ bare rs) (bare rs) ≡ bare (cond t (r ∷ rs) rs)
filter_by r rs true = refl
filter_by r rs false = refl

-- by a test that looks at no number
filter_bare : (test : Reservation → Bool) → ((r : Reservation) → test (unnumbered r) ≡ test r) → (l : List Reservation)
    → filter test (bare l) ≡ bare (filter test l)
filter_bare test alike [] = refl
filter_bare test alike (r ∷ rs) =
    ap (λ t. cond t (unnumbered r ∷ filter test (bare rs)) (filter test (bare rs))) (alike r)
    ∙ ap (λ l. cond (test r) (unnumbered r ∷ l) l) (filter_bare test alike rs) ∙ filter_by r (filter test rs) (test r)

place_by_test : (x y : Reservation) (ys : List Reservation) (t : Bool) → place (unnumbered x) (bare ys) ≡ bare (place x ys)
    → cond t (unnumbered y ∷ place (unnumbered x) (bare ys)) (unnumbered x ∷ unnumbered y ∷ bare ys)
    ≡ bare (cond t (y ∷ place x ys) (x ∷ y ∷ ys))
place_by_test x y ys true e = ap (λ t. unnumbered y ∷ t) e
place_by_test x y ys false e = refl

pub place_bare : (x : Reservation) (l : List Reservation) → place (unnumbered x) (bare l) ≡ bare (place x l)
place_bare x [] = refl
place_bare x (y ∷ ys) = place_by_test x y ys (nat_lt y.start x.start) (place_bare x ys)

pub kept_bare : (l : List Reservation) (floor : ℕ) → IsByStart l → kept (bare l) floor ≡ bare (kept l floor)
kept_bare l floor o =
    kept-filtered (bare l) floor (rises_bare 0 l o) ∙ filter_bare (is_kept floor) (λ r. refl) l ∙ ap bare (sym (kept-filtered l floor o))

-- a book's answer

overlap_bare : (gap : ℕ) (l : List Reservation) (from to : ℕ) → overlap gap (bare l) from to ≡ overlap gap l from to
unfolding overlap
overlap_bare gap l from to =
    let test = overlaps start_of (rested_from gap) from (to + gap) in
    ap (λ m. least (map start_of m)) (filter_bare test (λ r. refl) l) ∙ ap least (starts_bare (filter test l))

starts_in_bare : (l : List Reservation) (band : Band) → starts_in (bare l) band ≡ starts_in l band
starts_in_bare l band = ap (map start_of) (filter_bare (is_in band) (λ r. refl) l) ∙ starts_bare (filter (is_in band) l)

spent_bare : (l : List Reservation) → spent (bare l) ≡ spent l
spent_bare l = λ i band t. begun_bare band t (t + hour) l i

full_hour_bare : (l : List Reservation) (band : Band) (start airtime : ℕ)
    → full_hour (bare l) band start airtime ≡ full_hour l band start airtime
unfolding full_hour
full_hour_bare l band start airtime =
    ap (λ starts. least (filter (is_overfull (bare l) band start airtime) (start ∷ starts))) (starts_in_bare l band)
    ∙ (λ i. least (filter (λ t. overfull_by (spent_bare l i) t) (start ∷ starts_in l band)))
  where
    overfull_by : (Band → ℕ → ℕ) → ℕ → Bool
    overfull_by sums t = is_within_hour start t && nat_lt (limit_of band) (sums band t + airtime)

duty_bare : (l : List Reservation) (ask : Ask) → duty_full (bare l) (bare_ask ask) ≡ duty_full l ask
duty_bare l ask =
    ap (λ f. option_and_then f (band_of ask.freq_hz ask.rate)) (λ i band.
    option_map (λ from. DutyFull band from (spent_bare l i band from)) (full_hour_bare l band ask.start (ask_airtime ask) i))

pub refusal_bare : (rules : Rules) (s : State) (ask : Ask) → IsByStart s.list
    → refusal_of (terms_at rules (bare_state s)) (bare s.list) (bare_ask ask) ≡ refusal_of (terms_at rules s) s.list ask
refusal_bare rules s ask o =
    let counted : length (kept (bare s.list) s.floor) ≡ length (kept s.list s.floor) =
    ap length (kept_bare s.list s.floor o) ∙ length-map (kept s.list s.floor) unnumbered in
    rw (overlap_bare rules.gap s.list ask.start (ask_end ask), duty_bare s.list ask, counted) refl

-- what it keeps then
pub step_bare : (rules : Rules) (s : State) (ask : Ask) (r : Reservation) → IsByStart s.list
    → refusal_of (terms_at rules s) s.list ask ≡ None → IsAsked ask r
    → book_step rules (bare_state s) (bare_ask ask) ≡ bare_state (book_step rules s ask)
step_bare rules s ask r o accepts a =
    let b : IsAsked (bare_ask ask) (unnumbered r) =
    record { number = refl; start = a.start; freq_hz = a.freq_hz; rate = a.rate; len = a.len } in
    book_step-accepted rules (bare_state s) (bare_ask ask) (unnumbered r) (refusal_bare rules s ask o ∙ accepts) b
    ∙ ap (λ l. record s { list = l; booked = s.booked + airtime_us r }) (place_bare r s.list)
    ∙ ap bare_state (sym (book_step-accepted rules s ask r accepts a))
