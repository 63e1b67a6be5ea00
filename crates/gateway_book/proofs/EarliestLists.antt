use Rattle.std.specs.Prelude.{ℕ, ◌≡◌, ◌+◌, ◌<◌, ◌≤◌, nat_lt, nat_le, Bool, true, false, ◌&&◌, ◌||◌, not, List, [], ◌∷◌, Option}
use Rattle.std.specs.Prelude.{Some, None, map, filter, find, cond, refl, Contains, All, MatchOption}
use Rattle.std.proofs.Common.{sym, ap, ◌∙◌, arith, subst, inl, inr, zero, suc, true≢false}
use Rattle.std.proofs.lemmas.Bool.{leb-true, leb-false, cases_lt}
use Rattle.std.proofs.lemmas.Bool.Decides.{nat_tests}
use Rattle.radio_bands.specs.declared.band.Band.{Band}
use Rattle.radio_bands.specs.Band.{hour, limit_of}
use Rattle.resv_list.specs.declared.reservation.Reservation.{Reservation}
use Rattle.resv_list.specs.Sorted.{RisesFrom, first_from}
use Rattle.resv_list.specs.Reservations.{start_of, is_in, spent, IsByStart}
use Rattle.resv_list.specs.Hours.{is_over, first_over}
use Rattle.resv_list.proofs.Walk.{found_passes}
use Rattle.gateway_book.specs.Least.{least}
use Rattle.gateway_book.specs.Disjoint.{overlaps, rested_from}
use Rattle.gateway_book.specs.Duty.{full_hour}
use Rattle.gateway_book.specs.Laws.{IsFirstFullHour}
use Rattle.gateway_book.specs.Answer.{overlap}
use Rattle.gateway_book.proofs.LeastLaws.{least_is_least}
use Rattle.gateway_book.proofs.DutyLaws.{OfStarts, weaker_starts, spent_later}
use Rattle.gateway_book.proofs.DutyRow.{duty_row_is_exact, spent_nothing}
use Rattle.gateway_book.proofs.OwnHours.{own_hour-holds}

-- Lists that a start is looked for in: what is found, what overlaps, and full hours.

-- what is found in lists

module _ {X : Type 0} (key : X → ℕ) where
  low_member : (low : ℕ) (x : X) (xs : List X) → RisesFrom key low xs → Contains xs x → low ≤ key x
  low_member low x [] r c = absurd (omega (arith, c.1))
  low_member low x (y ∷ ys) r (zero, h, g) = omega (arith, r.0, ap key g)
  low_member low x (y ∷ ys) r (suc k, h, g) =
      let i = low_member (key y + 1) x ys r.1 (k, omega (arith, h), g) in omega (arith, r.0, i)

  same_by : (low : ℕ) (x r y : X) (ys : List X) (t : Bool) → nat_le (key x) (key y) ≡ t → RisesFrom key low (y ∷ ys)
      → Contains (y ∷ ys) x → cond t (Some y) (first_from key (key x) ys) ≡ Some r
      → (Contains ys x → first_from key (key x) ys ≡ Some r → r ≡ x) → r ≡ x
  same_by low x r y ys true e s (zero, h, g) f rest = let q : y ≡ r = cc in sym q ∙ g
  same_by low x r y ys true e s (suc k, h, g) f rest =
      let i = low_member (key y + 1) x ys s.1 (k, omega (arith, h), g) in
      absurd (omega (arith, i, leb-true (key x) (key y) e))
  same_by low x r y ys false e s (zero, h, g) f rest =
      absurd (omega (arith, ap key g, leb-false (key x) (key y) e))
  same_by low x r y ys false e s (suc k, h, g) f rest = rest (k, omega (arith, h), g) f

  -- the first from a member's key on is that member
  pub same_member : (low : ℕ) (x r : X) (xs : List X) → RisesFrom key low xs → Contains xs x
      → first_from key (key x) xs ≡ Some r → r ≡ x
  same_member low x r [] s c f = absurd (omega (arith, c.1))
  same_member low x r (y ∷ ys) s c f =
      same_by low x r y ys (nat_le (key x) (key y)) refl s c f (λ d g. same_member (key y + 1) x r ys s.1 d g)

  least_found_by : (test : X → Bool) (low : ℕ) (m x y : X) (ys : List X) (t : Bool) → test y ≡ t → RisesFrom key low (y ∷ ys)
      → cond t (Some y) (find test ys) ≡ Some m → Contains (y ∷ ys) x → test x ≡ true
      → (find test ys ≡ Some m → Contains ys x → key m ≤ key x) → key m ≤ key x
  least_found_by test low m x y ys true e s f (zero, h, g) p rest =
      let q : y ≡ m = cc in omega (arith, ap key q, ap key g)
  least_found_by test low m x y ys true e s f (suc k, h, g) p rest =
      let q : y ≡ m = cc in
      let i = low_member (key y + 1) x ys s.1 (k, omega (arith, h), g) in omega (arith, ap key q, i)
  least_found_by test low m x y ys false e s f (zero, h, g) p rest = absurd (true≢false (sym p ∙ sym (ap test g) ∙ e))
  least_found_by test low m x y ys false e s f (suc k, h, g) p rest = rest f (k, omega (arith, h), g)

  -- the first that passes has the least key of those that do
  pub least_found : (test : X → Bool) (low : ℕ) (m x : X) (xs : List X) → RisesFrom key low xs → find test xs ≡ Some m
      → Contains xs x → test x ≡ true → key m ≤ key x
  least_found test low m x [] s f c p = absurd (cc)
  least_found test low m x (y ∷ ys) s f c p =
      least_found_by test low m x y ys (test y) refl s f c p (λ g d. least_found test (key y + 1) m x ys s.1 g d p)

  passing_by : (test : X → Bool) (n : ℕ) (y : X) (ys : List X) (t : Bool) → test y ≡ t
      → Contains (map key (cond t (y ∷ filter test ys) (filter test ys))) n
      → (Contains (map key (filter test ys)) n → (x : X) × Contains ys x × (test x ≡ true) × (key x ≡ n))
      → (x : X) × Contains (y ∷ ys) x × (test x ≡ true) × (key x ≡ n)
  passing_by test n y ys true e (zero, h, g) rest = (y, (zero, omega arith, refl), e, g)
  passing_by test n y ys true e (suc k, h, g) rest =
      let r = rest (k, omega (arith, h), g) in (r.0, (suc r.1.0, omega (arith, r.1.1), r.1.2), r.2, r.3)
  passing_by test n y ys false e c rest =
      let r = rest c in (r.0, (suc r.1.0, omega (arith, r.1.1), r.1.2), r.2, r.3)

  -- a key of those that pass is the key of one
  pub passing_member : (test : X → Bool) (n : ℕ) (xs : List X) → Contains (map key (filter test xs)) n
      → (x : X) × Contains xs x × (test x ≡ true) × (key x ≡ n)
  passing_member test n [] c = absurd (omega (arith, c.1))
  passing_member test n (y ∷ ys) c = passing_by test n y ys (test y) refl c (passing_member test n ys)

  none_by : (test : X → Bool) (x y : X) (ys : List X) (t : Bool) → test y ≡ t → Contains (y ∷ ys) x → test x ≡ true
      → least (map key (cond t (y ∷ filter test ys) (filter test ys))) ≡ None
      → (Contains ys x → least (map key (filter test ys)) ≡ None → ⊥) → ⊥
  none_by test x y ys true e c p n rest = absurd (cc)
  none_by test x y ys false e (zero, h, g) p n rest = true≢false (sym p ∙ sym (ap test g) ∙ e)
  none_by test x y ys false e (suc k, h, g) p n rest = rest (k, omega (arith, h), g) n

  -- where a member passes, there is a least key
  pub some_least : (test : X → Bool) (x : X) (xs : List X) → Contains xs x → test x ≡ true
      → least (map key (filter test xs)) ≡ None → ⊥
  some_least test x [] c p n = omega (arith, c.1)
  some_least test x (y ∷ ys) c p n = none_by test x y ys (test y) refl c p n (λ d m. some_least test x ys d p m)

unfound_by : {X : Type 0} (test : X → Bool) (x y : X) (ys : List X) (t : Bool) → test y ≡ t → Contains (y ∷ ys) x
    → test x ≡ true → cond t (Some y) (find test ys) ≡ None → (Contains ys x → find test ys ≡ None → ⊥) → ⊥
unfound_by test x y ys true e c p n rest = absurd (cc)
unfound_by test x y ys false e (zero, h, g) p n rest = true≢false (sym p ∙ sym (ap test g) ∙ e)
unfound_by test x y ys false e (suc k, h, g) p n rest = rest (k, omega (arith, h), g) n

pub unfound : {X : Type 0} (test : X → Bool) (x : X) (xs : List X) → Contains xs x → test x ≡ true → find test xs ≡ None → ⊥
unfound test x [] c p n = omega (arith, c.1)
unfound test x (y ∷ ys) c p n = unfound_by test x y ys (test y) refl c p n (λ d m. unfound test x ys d p m)

-- what overlaps

pub overlapping : (gap : ℕ) (l : List Reservation) (from to start : ℕ) → overlap gap l from to ≡ Some start
    → (r : Reservation) × Contains l r × (overlaps start_of (rested_from gap) from (to + gap) r ≡ true) × (r.start ≡ start)
unfolding overlap
overlapping gap l from to start e =
    let test : Reservation → Bool = overlaps start_of (rested_from gap) from (to + gap) in
    let P : Option ℕ → Type 0 = λ o. MatchOption o (map start_of (filter test l) ≡ [])
    (λ m. Contains (map start_of (filter test l)) m × All (λ n. m ≤ n) (map start_of (filter test l))) in
    let found : P (Some start) = subst P e (least_is_least (map start_of (filter test l))) in
    passing_member start_of test start l found.0

clear_of : (gap : ℕ) (l : List Reservation) (from to : ℕ) (r : Reservation) → Contains l r → overlap gap l from to ≡ None
    → overlaps start_of (rested_from gap) from (to + gap) r ≡ true → ⊥
unfolding overlap
clear_of gap l from to r c n p = some_least start_of (overlaps start_of (rested_from gap) from (to + gap)) r l c p n

still_overlaps : (t s air gap low end : ℕ) → t ≤ s → not (nat_le end t || nat_le (t + air + gap) low) ≡ true → s < end
    → not (nat_le end s || nat_le (s + air + gap) low) ≡ true
still_overlaps t s air gap low end h o g = grind (arith, nat_tests)

pub not_before_end : (t to low end : ℕ) → not (nat_le end t || nat_le to low) ≡ true → t < end
not_before_end t to low end o = grind (arith, nat_tests)

-- where a member overlaps at t, a later start that is clear lies no earlier than its end and the gap after it
pub clear_after : (gap : ℕ) (l : List Reservation) (t s air : ℕ) (r : Reservation) → t ≤ s → Contains l r
    → overlaps start_of (rested_from gap) t (t + air + gap) r ≡ true → overlap gap l s (s + air) ≡ None → rested_from gap r ≤ s
clear_after gap l t s air r h c o n = elim (cases_lt s (rested_from gap r)) [
  | inl g ↦ absurd (clear_of gap l s (s + air) r c n (still_overlaps t s air gap r.start (rested_from gap r) h o g))
  | inr g ↦ g
]

-- full hours

spare_hours : (l : List Reservation) (band : Band) (s air : ℕ) → full_hour l band s air ≡ None → (t : ℕ) → t ≤ s → s < t + hour
    → spent l band t + air ≤ limit_of band
spare_hours l band s air e = (duty_row_is_exact l band s air None).1 (sym e)

pub first_full_hour : (l : List Reservation) (band : Band) (s air from : ℕ) → full_hour l band s air ≡ Some from
    → IsFirstFullHour l band s air from
first_full_hour l band s air from e = (duty_row_is_exact l band s air (Some from)).1 (sym e)

-- where an hour is full, no start in it is accepted
pub after_hour : (l : List Reservation) (band : Band) (t s air from : ℕ) → t ≤ s → full_hour l band t air ≡ Some from
    → full_hour l band s air ≡ None → from + hour ≤ s
after_hour l band t s air from h f n =
    let full = first_full_hour l band t air from f in
    elim (cases_lt s (from + hour)) [
      | inl g ↦ absurd (omega (
        arith,
        spare_hours l band s air n from (omega (arith, full.begins)) g,
        full.passes,
      ))
      | inr g ↦ g
    ]

of_members : (P : ℕ → Type 0) (band : Band) (l : List Reservation)
    → ((r : Reservation) → Contains l r → is_in band r ≡ true → P r.start) → OfStarts band P l
of_members P band [] h = tt
of_members P band (r ∷ rs) h = (
  h r (zero, omega arith, refl),
  of_members P band rs (λ x c. h x (suc c.0, omega (arith, c.1), c.2)),
)

over_nothing : (p : Bool) (t start sum : ℕ) → p ≡ true → t ≤ start → start < t + hour → 0 < sum
    → (p && nat_le t start && nat_lt start (t + hour) && nat_lt 0 sum) ≡ true
over_nothing true t start sum e h g k = grind (arith, nat_tests)
over_nothing false t start sum e h g k = absurd (cc)

pub begins_in : (p : Bool) (t start sum : ℕ) → (p && nat_le t start && nat_lt start (t + hour) && nat_lt 0 sum) ≡ true
    → (t ≤ start) × (start < t + hour)
begins_in true t start sum e = (grind (arith, nat_tests), grind (arith, nat_tests))
begins_in false t start sum e = absurd (cc)

first_of_band : (l : List Reservation) (band : Band) (t : ℕ) (m : Reservation) → IsByStart l
    → first_over band t (t + hour) 0 l ≡ Some m → OfStarts band (λ k. t ≤ k → m.start ≤ k) l
first_of_band l band t m s f =
    let test : Reservation → Bool = is_over l band t (t + hour) 0 in
    let within = begins_in (is_in band m) t m.start (spent l band m.start) (found_passes start_of test m l f) in
    of_members (λ k. t ≤ k → m.start ≤ k) band l (λ r c e h. elim (cases_lt r.start (t + hour)) [
      | inl g ↦ least_found start_of test 0 m r l s f c
          (over_nothing (is_in band r) t r.start (spent l band r.start) e h g (own_hour-holds l band r c e))
      | inr g ↦ omega (arith, within.1, g)
    ])

-- where the start's own hour is full, no start is accepted until the end of the hour of the band's first member
pub after_own_hour : (l : List Reservation) (band : Band) (t s air : ℕ) (m : Reservation) → IsByStart l → t ≤ s
    → limit_of band < spent l band t + air → first_over band t (t + hour) 0 l ≡ Some m → full_hour l band s air ≡ None
    → m.start + hour ≤ s
after_own_hour l band t s air m b h over f n =
    let firsts = first_of_band l band t m b f in
    let within = begins_in (is_in band m) t m.start (spent l band m.start)
    (found_passes start_of (is_over l band t (t + hour) 0) m l f) in
    elim (cases_lt s (m.start + hour)) [
      | inl g ↦ elim (cases_lt s m.start) [
        | inl k ↦ absurd (omega (
          arith,
          over,
          spent_later band t s l h (weaker_starts band t m.start s l (omega (arith, k)) firsts),
          spare_hours l band s air n s (omega arith) (omega arith),
        ))
        | inr k ↦ absurd (omega (
          arith,
          over,
          spent_later band t m.start l within.0 firsts,
          spare_hours l band s air n m.start k g,
        ))
      ]
      | inr g ↦ g
    ]

-- and where the band has no member in that hour, none at all
pub never : (l : List Reservation) (band : Band) (t s air : ℕ) → limit_of band < spent l band t + air
    → first_over band t (t + hour) 0 l ≡ None → full_hour l band s air ≡ None → ⊥
never l band t s air over f n =
    let test : Reservation → Bool = is_over l band t (t + hour) 0 in
    let empty = spent_nothing band t l (of_members (λ k. t ≤ k → t + hour ≤ k) band l (λ r c e h.
    elim (cases_lt r.start (t + hour)) [
      | inl g ↦ absurd (unfound test r l c
          (over_nothing (is_in band r) t r.start (spent l band r.start) e h g (own_hour-holds l band r c e)) f)
      | inr g ↦ g
    ])) in
    omega (arith, over, empty, spare_hours l band s air n s (omega arith) (omega arith))
