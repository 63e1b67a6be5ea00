use Rattle.std.specs.Prelude.{ℕ, ◌≡◌, ◌+◌, ◌<◌, ◌≤◌, nat_lt, nat_le, Bool, true, false, ◌&&◌, List, [], ◌∷◌, Option, Some, None}
use Rattle.std.specs.Prelude.{map, filter, cond, ⊤, refl, Contains, All, MatchOption}
use Rattle.std.proofs.Common.{sym, ap, ◌∙◌, arith, subst, inl, inr, zero, suc}
use Rattle.std.proofs.lemmas.Bool.{leb-true, leb-false, ltb-true, ltb-false}
use Rattle.std.proofs.lemmas.Bool.Decides.{nat_tests}
use Rattle.radio_bands.specs.declared.band.Band.{Band}
use Rattle.radio_bands.specs.Band.{hour, limit_of}
use Rattle.resv_list.specs.declared.reservation.Reservation.{Reservation}
use Rattle.resv_list.specs.Reservations.{start_of, airtime_us, is_in, spent}
use Rattle.resv_list.specs.Begun.{begun-cons, begun-nil}
use Rattle.gateway_book.proofs.LeastLaws.{least_is_least}
use Rattle.resv_list.specs.Hours.{starts_in}
use Rattle.gateway_book.specs.Duty.{is_within_hour, would_pass, is_overfull, full_hour}
use Rattle.gateway_book.specs.Laws.{IsOpening, IsDutyAnswer}

-- Of all hours, only finitely many want a look: those that open at a start.

-- a fact of the start of each member of the band
abbrev pub OfStarts : Band → (ℕ → Type 0) → List Reservation → Type 0
OfStarts band P [] = ⊤
OfStarts band P (r ∷ rs) = (is_in band r ≡ true → P r.start) × OfStarts band P rs

-- the least start of a member of the band from t on, or `end` if none lies before it
abbrev pub next_opening : Band → ℕ → ℕ → List Reservation → ℕ
next_opening band t end [] = end
next_opening band t end (r ∷ rs) =
    cond (is_in band r && nat_le t r.start && nat_lt r.start (next_opening band t end rs)) r.start (next_opening band t end rs)

-- it is `end` or the start of a member
next_by : (P : ℕ → Type 0) (p q u : Bool) (s n : ℕ) → (p ≡ true → P s) → P n → P (cond (p && q && u) s n)
next_by P true true true s n h g = h refl
next_by P true true false s n h g = g
next_by P true false u s n h g = g
next_by P false q u s n h g = g

pub next_is : (P : ℕ → Type 0) (band : Band) (t end : ℕ) (l : List Reservation) → P end → OfStarts band P l
    → P (next_opening band t end l)
next_is P band t end [] e h = e
next_is P band t end (r ∷ rs) e h =
    next_by P (is_in band r) (nat_le t r.start) (nat_lt r.start (next_opening band t end rs)) r.start
    (next_opening band t end rs) h.0 (next_is P band t end rs e h.1)

-- it lies between t and `end`
between_by : (p q u : Bool) (t end s n : ℕ) → nat_le t s ≡ q → nat_lt s n ≡ u → t ≤ n → n ≤ end
    → (t ≤ cond (p && q && u) s n) × (cond (p && q && u) s n ≤ end)
between_by true true true t end s n a b h g = (leb-true t s a, omega (arith, ltb-true s n b))
between_by true true false t end s n a b h g = (h, g)
between_by true false u t end s n a b h g = (h, g)
between_by false q u t end s n a b h g = (h, g)

pub next_between : (band : Band) (t end : ℕ) (l : List Reservation) → t ≤ end
    → (t ≤ next_opening band t end l) × (next_opening band t end l ≤ end)
next_between band t end [] h = (h, omega arith)
next_between band t end (r ∷ rs) h =
    let i = next_between band t end rs h in
    between_by (is_in band r) (nat_le t r.start) (nat_lt r.start (next_opening band t end rs)) t end r.start
    (next_opening band t end rs) refl refl i.0 i.1

-- no member of the band begins from t on and before it
none_by : (p q u : Bool) (t s n m : ℕ) → nat_le t s ≡ q → nat_lt s n ≡ u → m ≡ cond (p && q && u) s n → p ≡ true → t ≤ s → m ≤ s
none_by true true true t s n m a b e h g = omega arith
none_by true true false t s n m a b e h g = omega (arith, ltb-false s n b)
none_by true false u t s n m a b e h g = absurd (omega (arith, leb-false t s a))
none_by false q u t s n m a b e h g = absurd (cc)

sooner_or_same : (p q u : Bool) (s n : ℕ) → nat_lt s n ≡ u → cond (p && q && u) s n ≤ n
sooner_or_same true true true s n b = omega (arith, ltb-true s n b)
sooner_or_same true true false s n b = omega arith
sooner_or_same true false u s n b = omega arith
sooner_or_same false q u s n b = omega arith

-- what begins from a moment on begins from an earlier one on
pub weaker_starts : (band : Band) (t n m : ℕ) (l : List Reservation) → m ≤ n → OfStarts band (λ s. t ≤ s → n ≤ s) l
    → OfStarts band (λ s. t ≤ s → m ≤ s) l
weaker_starts band t n m [] h o = tt
weaker_starts band t n m (r ∷ rs) h o = (λ p g. let k = o.0 p g in omega (arith, h, k), weaker_starts band t n m rs h o.1)

pub none_before_next : (band : Band) (t end : ℕ) (l : List Reservation)
    → OfStarts band (λ s. t ≤ s → next_opening band t end l ≤ s) l
none_before_next band t end [] = tt
none_before_next band t end (r ∷ rs) =
    let n : ℕ = next_opening band t end rs in (
      λ p g. none_by (is_in band r) (nat_le t r.start) (nat_lt r.start n) t r.start n _ refl refl refl p g,
      weaker_starts band t n (next_opening band t end (r ∷ rs)) rs
          (sooner_or_same (is_in band r) (nat_le t r.start) (nat_lt r.start n) r.start n refl) (none_before_next band t end rs),
    )

-- an hour that opens later, with no start of the band in between, holds no less
share_by : (p : Bool) (t m s air : ℕ) → t ≤ m → (p ≡ true → t ≤ s → m ≤ s)
    → cond (p && nat_le t s && nat_lt s (t + hour)) air 0 ≤ cond (p && nat_le m s && nat_lt s (m + hour)) air 0
share_by true t m s air h g = let k : t ≤ s → m ≤ s = g refl in grind (arith, nat_tests)
share_by false t m s air h g = omega arith

pub spent_later : (band : Band) (t m : ℕ) (l : List Reservation) → t ≤ m → OfStarts band (λ s. t ≤ s → m ≤ s) l
    → spent l band t ≤ spent l band m
spent_later band t m [] h o = omega (arith, begun-nil band t (t + hour), begun-nil band m (m + hour))
spent_later band t m (r ∷ rs) h o =
    let i = spent_later band t m rs h o.1 in
    let s = share_by (is_in band r) t m r.start (airtime_us r) h o.0 in
    omega (arith, begun-cons band t (t + hour) r rs, begun-cons band m (m + hour) r rs, i, s)

no_more : (t n start at_t at_n airtime limit : ℕ) → t ≤ n → n ≤ start → start < t + hour → at_t ≤ at_n
    → (nat_le n start && nat_lt start (n + hour) && nat_lt limit (at_n + airtime)) ≡ false → nat_lt limit (at_t + airtime) ≡ false
no_more t n start at_t at_n airtime limit a b c d e = grind (arith, nat_tests)

-- Where no hour that opens at the start, or at a start of a member of the band, is overfull, none is.
pub few_hours : (l : List Reservation) (band : Band) (start airtime : ℕ) → is_overfull l band start airtime start ≡ false
    → OfStarts band (λ s. is_overfull l band start airtime s ≡ false) l → (t : ℕ) → is_overfull l band start airtime t ≡ false
few_hours l band start airtime h o t = by_hour (is_within_hour start t) refl
  where
    by_hour : (w : Bool) → is_within_hour start t ≡ w → (w && would_pass l band airtime t) ≡ false
    by_hour false e = refl
    by_hour true e =
        let early : t ≤ start = grind (arith, nat_tests) in
        let late : start < t + hour = grind (arith, nat_tests) in
        let n : ℕ = next_opening band t start l in
        let between = next_between band t start l early in
        let clear : is_overfull l band start airtime n ≡ false =
        next_is (λ s. is_overfull l band start airtime s ≡ false) band t start l h o in
        let more = spent_later band t n l between.0 (none_before_next band t start l) in
        no_more t n start (spent l band t) (spent l band n) airtime (limit_of band) between.0 between.1 late more clear

-- members of a list that is filtered
kept_by : (test : ℕ → Bool) (c m : ℕ) (cs : List ℕ) (t : Bool) → test c ≡ t
    → Contains (cond t (c ∷ filter test cs) (filter test cs)) m → (Contains (filter test cs) m → (test m ≡ true) × Contains cs m)
    → (test m ≡ true) × Contains (c ∷ cs) m
kept_by test c m cs true e (zero, h, g) rest = (ap test (sym g) ∙ e, (zero, omega arith, g))
kept_by test c m cs true e (suc k, h, g) rest = let r = rest (k, omega arith, g) in
    (r.0, (suc r.1.0, omega (arith, r.1.1), r.1.2))
kept_by test c m cs false e h rest = let r = rest h in (r.0, (suc r.1.0, omega (arith, r.1.1), r.1.2))

pub Contains-filter : (test : ℕ → Bool) (m : ℕ) (cs : List ℕ) → Contains (filter test cs) m → (test m ≡ true) × Contains cs m
Contains-filter test m [] h = absurd (omega (arith, h.1))
Contains-filter test m (c ∷ cs) h = kept_by test c m cs (test c) refl h (Contains-filter test m cs)

kept_too : (test : ℕ → Bool) (c m : ℕ) (cs : List ℕ) (t : Bool) → test c ≡ t → test m ≡ true → Contains (c ∷ cs) m
    → (Contains cs m → Contains (filter test cs) m) → Contains (cond t (c ∷ filter test cs) (filter test cs)) m
kept_too test c m cs true e p (zero, h, g) rest = (zero, omega arith, g)
kept_too test c m cs true e p (suc k, h, g) rest = let r = rest (k, omega arith, g) in (suc r.0, omega (arith, r.1), r.2)
kept_too test c m cs false e p (zero, h, g) rest = let same : c ≡ m = g in absurd (cc (ap test same))
kept_too test c m cs false e p (suc k, h, g) rest = rest (k, omega arith, g)

pub filter-Contains : (test : ℕ → Bool) (m : ℕ) (cs : List ℕ) → test m ≡ true → Contains cs m → Contains (filter test cs) m
filter-Contains test m [] p h = absurd (omega (arith, h.1))
filter-Contains test m (c ∷ cs) p h = kept_too test c m cs (test c) refl p h (filter-Contains test m cs p)

-- what holds of all holds of a member
pub all_at : {X : Type 0} (P : X → Type 0) (xs : List X) (x : X) → All P xs → Contains xs x → P x
all_at P xs x a c = subst P c.2 (a c.0 x c.1)

starts_by : (P : ℕ → Type 0) (band : Band) (r : Reservation) (rs : List Reservation) (p : Bool) → is_in band r ≡ p
    → ((t : ℕ) → Contains (map start_of (cond p (r ∷ filter (is_in band) rs) (filter (is_in band) rs))) t → P t)
    → (((t : ℕ) → Contains (starts_in rs band) t → P t) → OfStarts band P rs) → (p ≡ true → P r.start) × OfStarts band P rs
starts_by P band r rs true e h rest = (
  λ q. h r.start (zero, omega arith, refl),
  rest (λ t c. h t (suc c.0, omega (arith, c.1), c.2)),
)
starts_by P band r rs false e h rest = (λ q. absurd (cc), rest h)

-- what holds of each start that is listed holds of the start of each member of the band
pub OfStarts-from : (P : ℕ → Type 0) (band : Band) (l : List Reservation) → ((t : ℕ) → Contains (starts_in l band) t → P t)
    → OfStarts band P l
OfStarts-from P band [] h = tt
OfStarts-from P band (r ∷ rs) h = starts_by P band r rs (is_in band r) refl h (OfStarts-from P band rs)

none_of : (test : ℕ → Bool) (cs : List ℕ) (t : ℕ) (b : Bool) → test t ≡ b → filter test cs ≡ [] → Contains cs t → b ≡ false
none_of test cs t false e n c = refl
none_of test cs t true e n c =
    let P : List ℕ → Type 0 = λ ns. Contains ns t in
    let none : Contains [] t = subst P n (filter-Contains test t cs e c) in
    absurd (omega (arith, none.1))

pub within_limit : (start airtime t at_t limit : ℕ) → (nat_le t start && nat_lt start (t + hour) && nat_lt limit (at_t + airtime))
    ≡ false → t ≤ start → start < t + hour → at_t + airtime ≤ limit
within_limit start airtime t at_t limit e h g = grind (arith, nat_tests)

overfull_if : (start airtime t at_t limit : ℕ) → t ≤ start → start < t + hour → limit < at_t + airtime
    → (nat_le t start && nat_lt start (t + hour) && nat_lt limit (at_t + airtime)) ≡ true
overfull_if start airtime t at_t limit h g p = grind (arith, nat_tests)

is_opening : (l : List Reservation) (band : Band) (start t : ℕ) → Contains (start ∷ starts_in l band) t → IsOpening l band start t
is_opening l band start t (zero, h, g) = inl (sym g)
is_opening l band start t (suc k, h, g) = inr (k, omega arith, g)

opening_is : (l : List Reservation) (band : Band) (start t : ℕ) → IsOpening l band start t → Contains (start ∷ starts_in l band) t
opening_is l band start t (inl e) = (zero, omega arith, sym e)
opening_is l band start t (inr c) = (suc c.0, omega (arith, c.1), c.2)

answers : (l : List Reservation) (band : Band) (start airtime : ℕ) (o : Option ℕ)
    → MatchOption o (filter (is_overfull l band start airtime) (start ∷ starts_in l band) ≡ [])
    (λ m. Contains (filter (is_overfull l band start airtime) (start ∷ starts_in l band)) m
    × All (λ n. m ≤ n) (filter (is_overfull l band start airtime) (start ∷ starts_in l band)))
    → IsDutyAnswer l band start airtime o
answers l band start airtime None none =
    let test : ℕ → Bool = is_overfull l band start airtime in
    let own : test start ≡ false = none_of test (start ∷ starts_in l band) start (test start) refl none
    (zero, omega arith, refl) in
    let others = OfStarts-from (λ s. test s ≡ false) band l (λ s c. none_of test (start ∷ starts_in l band) s (test s) refl none
    (suc c.0, omega (arith, c.1), c.2)) in
    λ t h g. within_limit start airtime t (spent l band t) (limit_of band) (few_hours l band start airtime own others t) h g
answers l band start airtime (Some m) found =
    let test : ℕ → Bool = is_overfull l band start airtime in
    let is = Contains-filter test m (start ∷ starts_in l band) found.0 in
    let over : is_overfull l band start airtime m ≡ true = is.0 in
    record {
      opens = is_opening l band start m is.1;
      begins = grind (arith, nat_tests);
      lasts = grind (arith, nat_tests);
      passes = grind (arith, nat_tests);
      first = λ t o h g p.
          all_at (λ n. m ≤ n) (filter test (start ∷ starts_in l band)) t found.1
          (filter-Contains test t (start ∷ starts_in l band) (overfull_if start airtime t (spent l band t) (limit_of band) h g p)
          (opening_is l band start t o));
    }

pub full_hour_answers : (l : List Reservation) (band : Band) (start airtime : ℕ)
    → IsDutyAnswer l band start airtime (full_hour l band start airtime)
unfolding full_hour
full_hour_answers l band start airtime =
    answers l band start airtime (full_hour l band start airtime)
    (least_is_least (filter (is_overfull l band start airtime) (start ∷ starts_in l band)))
