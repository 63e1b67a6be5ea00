use Rattle.std.specs.Prelude.{ℕ, ◌≡◌, ◌+◌, ◌<◌, ◌≤◌, max, nat_lt, nat_le, Bool, true, false, ◌&&◌, List, [], ◌∷◌, Option, Some, None}
use Rattle.std.specs.Prelude.{filter, map, cond}
use Rattle.std.specs.Bool.{then_some}
use Rattle.std.proofs.Common.{refl, sym, ap, ◌∙◌, arith, subst}
use Rattle.std.proofs.lemmas.Bool.{leb-true, leb-false, ltb-true, ltb-false, lt-ltb, le-ltb}
use Rattle.radio_bands.specs.declared.band.Band.{Band}
use Rattle.radio_bands.specs.Band.{hour}
use Rattle.resv_list.specs.Begun.{begun-cons, begun-nil}
use Rattle.resv_list.specs.Fit.{last_end}
use Rattle.resv_list.specs.Hours.{greatest}
use Rattle.resv_list.specs.Sorted.{RisesFrom, first_from, last, below}
use Rattle.resv_list.specs.Reservations.{start_of, end_of, begun, IsByStart, member_before, member_from}
use Rattle.resv_list.specs.Nearest.{IsFirstFrom}
use Rattle.resv_list.proofs.NearestLemmas.{nearest_are_found}
use Rattle.resv_list.proofs.SortedLaws.{RisesFrom-filter}
use Rattle.std.proofs.lemmas.List.Elements.{filter_passes, All-contains}
use Rattle.book_picture.specs.Hour.{members_of_hour}
use Rattle.book_picture.specs.Laws.{BeginsIn}
use Rattle.resv_list.specs.declared.reservation.Reservation.{Reservation}
use Rattle.resv_list.proofs.BegunLemmas.{share_before}
use Rattle.gateway_book.specs.Duty.{is_within_hour}
use Rattle.gateway_book.specs.Disjoint.{rested_from}
use Rattle.gateway_book.specs.Lawful.{AreApart}
use Rattle.gateway_book.specs.Spaced.{SpacedFrom}
use Rattle.gateway_book.proofs.ApartLaws.{apart_spaced}

-- The hour of a picture in a list by start.

-- nothing begins behind the end of time
pub spent_late : (band : Band) (t to : ℕ) (l : List Reservation) → last_end < t → begun band t to l ≡ 0
spent_late band t to [] late = begun-nil band t to
spent_late band t to (r ∷ rs) late =
    omega (
      arith,
      begun-cons band t to r rs,
      share_before band t to r (omega (arith, late, r.fit.timely)),
      spent_late band t to rs late,
    )

module _ {X : Type 0} (key : X → ℕ) where
  -- what a limit passes over, in the hour too
  abbrev pub in_hour : ℕ → X → Bool
  in_hour t x = is_within_hour (key x) t

  -- a member that is found, where it is one of the hour
  abbrev pub keep_in : ℕ → Option X → Option X
  keep_in t None = None
  keep_in t (Some x) = then_some (in_hour t x) x

  -- where the hour has ended, nothing is found in it
  none_by : (t at : ℕ) (x : X) (xs : List X) (s : Bool) → nat_lt (key x) (t + hour) ≡ false
      → first_from key at (filter (in_hour t) xs) ≡ None
      → first_from key at (cond (s && nat_lt (key x) (t + hour)) (x ∷ filter (in_hour t) xs) (filter (in_hour t) xs)) ≡ None
  none_by t at x xs true e rest = rw e rest
  none_by t at x xs false e rest = rest

  none_behind : (t at low : ℕ) (xs : List X) → t + hour ≤ low → RisesFrom key low xs
      → first_from key at (filter (in_hour t) xs) ≡ None
  none_behind t at low [] h r = refl
  none_behind t at low (x ∷ xs) h r =
      none_by t at x xs (nat_le t (key x)) (le-ltb (key x) (t + hour) (omega (arith, h, r.0)))
      (none_behind t at (key x + 1) xs (omega (arith, h, r.0)) r.1)

  step : (t at low : ℕ) (x : X) (xs : List X) (p q s u : Bool) → nat_le (max at t) (key x) ≡ p → nat_lt (key x) (t + hour) ≡ q
      → nat_le t (key x) ≡ s → nat_le at (key x) ≡ u → RisesFrom key low (x ∷ xs)
      → first_from key at (filter (in_hour t) xs) ≡ keep_in t (first_from key (max at t) xs)
      → first_from key at (cond (s && q) (x ∷ filter (in_hour t) xs) (filter (in_hour t) xs))
      ≡ keep_in t (cond p (Some x) (first_from key (max at t) xs))
  step t at low x xs true true true true ep eq es eu r rest = rw (eq, es, eu) refl
  step t at low x xs true true true false ep eq es eu r rest =
      absurd (omega (arith, leb-true (max at t) (key x) ep, leb-false at (key x) eu))
  step t at low x xs true true false u ep eq es eu r rest =
      absurd (omega (arith, leb-true (max at t) (key x) ep, leb-false t (key x) es))
  step t at low x xs true false true u ep eq es eu r rest =
      rw (es, eq) (none_behind t at (key x + 1) xs (omega (arith, ltb-false (key x) (t + hour) eq)) r.1)
  step t at low x xs true false false u ep eq es eu r rest =
      rw es (none_behind t at (key x + 1) xs (omega (arith, ltb-false (key x) (t + hour) eq)) r.1)
  step t at low x xs false true true true ep eq es eu r rest =
      absurd (omega (arith, leb-false (max at t) (key x) ep, leb-true t (key x) es, leb-true at (key x) eu))
  step t at low x xs false true true false ep eq es eu r rest = rw eu rest
  step t at low x xs false true false u ep eq es eu r rest = rest
  step t at low x xs false false true u ep eq es eu r rest = rest
  step t at low x xs false false false u ep eq es eu r rest = rest

  -- what is found from a moment on among the members of an hour is what is found in the whole list, where the hour has not ended
  pub found_in_hour : (t at low : ℕ) (xs : List X) → RisesFrom key low xs
      → first_from key at (filter (in_hour t) xs) ≡ keep_in t (first_from key (max at t) xs)
  found_in_hour t at low [] r = refl
  found_in_hour t at low (x ∷ xs) r =
      step t at low x xs (nat_le (max at t) (key x)) (nat_lt (key x) (t + hour)) (nat_le t (key x)) (nat_le at (key x))
      refl refl refl refl r (found_in_hour t at (key x + 1) xs r.1)

-- when a transmission ends that is there
abbrev pub end_in : Option Reservation → ℕ
end_in None = 0
end_in (Some r) = end_of r

-- of members that are spaced the last ends last
last_ends : (gap low : ℕ) (l : List Reservation) → SpacedFrom start_of (rested_from gap) low l
    → greatest (map end_of l) ≡ end_in (last l)
last_ends gap low [] s = refl
last_ends gap low (x ∷ []) s = omega arith
last_ends gap low (x ∷ y ∷ ys) s =
    let rest : greatest (map end_of (y ∷ ys)) ≡ end_in (last (y ∷ ys)) = last_ends gap (rested_from gap x) (y ∷ ys) s.1 in
    let next = s.1.0 in
    omega (arith, rest, next)

-- all begin before a moment behind the end of time
all_below : (limit : ℕ) (l : List Reservation) → last_end < limit → below start_of limit l ≡ l
all_below limit [] h = refl
all_below limit (x ∷ xs) h =
    let e : nat_lt x.start limit ≡ true = lt-ltb x.start limit (omega (arith, h, x.fit.timely)) in
    rw (e, all_below limit xs h) refl

-- the greatest end is that of the last member before such a moment
pub greatest_end : (gap limit : ℕ) (l : List Reservation) → last_end < limit → IsByStart l → AreApart gap l
    → greatest (map end_of l) ≡ end_in (member_before limit l)
greatest_end gap limit l h r a =
    last_ends gap 0 l (apart_spaced gap 0 l r a) ∙ sym (ap (λ (m : List Reservation). end_in (last m)) (all_below limit l h))

-- a member of an hour begins in it
pub begins : (t : ℕ) (r : Reservation) → is_within_hour r.start t ≡ true → BeginsIn t r
begins t r e = both (nat_le t r.start) (nat_lt r.start (t + hour)) refl refl e
  where
    both : (p q : Bool) → nat_le t r.start ≡ p → nat_lt r.start (t + hour) ≡ q → (p && q) ≡ true → BeginsIn t r
    both true true ep eq h = (leb-true t r.start ep, ltb-true r.start (t + hour) eq)
    both true false ep eq h = absurd (cc)
    both false q ep eq h = absurd (cc)

-- what is found from a moment on in an hour begins in it
pub found_begins : (t at : ℕ) (r : Reservation) (l : List Reservation) → IsByStart l
    → member_from at (members_of_hour l t) ≡ Some r → t ≤ r.start
found_begins t at r l rises e =
    let test : Reservation → Bool = λ s. is_within_hour s.start t in
    let m = members_of_hour l t in
    let P : Option Reservation → Type 0 = λ o. IsFirstFrom m at o in
    let first : IsFirstFrom m at (Some r) = subst P e (nearest_are_found m at (RisesFrom-filter start_of test 0 l rises)).1 in
    (begins t r (All-contains (λ s. test s ≡ true) m r (filter_passes test l) first.0)).0
