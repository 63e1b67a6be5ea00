use Rattle.std.specs.Prelude.{ℕ, ◌≡◌, ◌+◌, ◌<◌, ◌≤◌, nat_lt, Bool, true, false, List, [], ◌∷◌, Some, slice_get, find, ◌⊎◌}
use Rattle.std.specs.Option.{option_map}
use Rattle.std.proofs.Common.{refl, ap, arith, zero, suc, inl, inr}
use Rattle.std.proofs.lemmas.Bool.{ltb-true, ltb-false}
use Rattle.radio_airtime.specs.Bounds.{airtime_of-positive}
use Rattle.resv_list.specs.declared.reservation.Reservation.{Reservation}
use Rattle.resv_list.specs.Sorted.{RisesFrom}
use Rattle.resv_list.specs.Reservations.{start_of, end_of, IsByStart}
use Rattle.gateway_book.specs.Disjoint.{AreDisjoint, rested_from}
use Rattle.gateway_book.specs.Lawful.{AreApart, IsLawful}
use Rattle.gateway_book.specs.Least.{first_start}
use Rattle.gateway_book.specs.Spaced.{SpacedFrom}
use Rattle.gateway_book.proofs.SpacedLaws.{least-find}

-- Laws that tie the forms that the code looks at to the definitions.

-- a reservation ends after it starts
pub ends_later : (r : Reservation) → start_of r < end_of r
ends_later r = omega (arith, airtime_of-positive r.rate r.len)

pub rests_later : (gap : ℕ) (r : Reservation) → start_of r < rested_from gap r
rests_later gap r = omega (arith, ends_later r)

pub first_has_least_start : (test : Reservation → Bool) (l : List Reservation) → IsByStart l
    → first_start test l ≡ option_map start_of (find test l)
first_has_least_start test l s = least-find start_of test 0 l s

module _ (gap : ℕ) where
  spaced_get : (low : ℕ) (l : List Reservation) (i : ℕ) (r : Reservation) → SpacedFrom start_of (rested_from gap) low l
      → slice_get l i ≡ Some r → low ≤ r.start
  spaced_get low [] i r s e = absurd (cc)
  spaced_get low (x ∷ xs) zero r s e =
      let same : x ≡ r = cc in let k : x.start ≡ r.start = ap start_of same in omega (arith, s.0)
  spaced_get low (x ∷ xs) (suc i) r s e =
      let h = spaced_get (rested_from gap x) xs i r s.1 e in
      let p = ends_later x in
      omega (arith, s.0)

  spaced_pair : (low : ℕ) (l : List Reservation) (i j : ℕ) (r s : Reservation) → SpacedFrom start_of (rested_from gap) low l
      → slice_get l i ≡ Some r → slice_get l j ≡ Some s → i < j → rested_from gap r ≤ s.start
  spaced_pair low [] i j r s h e f g = absurd (cc)
  spaced_pair low (x ∷ xs) i zero r s h e f g = absurd (omega arith)
  spaced_pair low (x ∷ xs) zero (suc j) r s h e f g =
      let same : x ≡ r = cc in
      let k : end_of x ≡ end_of r = ap end_of same in
      let t = spaced_get (rested_from gap x) xs j s h.1 f in
      omega arith
  spaced_pair low (x ∷ xs) (suc i) (suc j) r s h e f g =
      spaced_pair (rested_from gap x) xs i j r s h.1 e f (omega arith)

  pub spaced_apart : (low : ℕ) (l : List Reservation) → SpacedFrom start_of (rested_from gap) low l → AreApart gap l
  spaced_apart low l h i j r s e f n = by_order (nat_lt i j) refl
    where
      by_order : (t : Bool) → nat_lt i j ≡ t → AreDisjoint gap r s
      by_order true o = inl (spaced_pair low l i j r s h e f (ltb-true i j o))
      by_order false o =
          let k : j ≤ i = ltb-false i j o in
          inr (spaced_pair low l j i s r h f e (omega arith))

  first_two : (x y : Reservation) → x.start < y.start → AreDisjoint gap x y → rested_from gap x ≤ y.start
  first_two x y h (inl a) = a
  first_two x y h (inr b) = let p = ends_later y in absurd (omega arith)

  pub apart_spaced : (low : ℕ) (l : List Reservation) → RisesFrom start_of low l → AreApart gap l
      → SpacedFrom start_of (rested_from gap) low l
  apart_spaced low [] r a = tt
  apart_spaced low (x ∷ []) r a = (r.0, tt)
  apart_spaced low (x ∷ y ∷ ys) r a =
      let rest = apart_spaced (x.start + 1) (y ∷ ys) r.1
      (λ i j q s e f n. a (suc i) (suc j) q s e f (λ m. n (omega arith))) in
      (r.0, (first_two x y (omega (arith, r.1.0)) (a zero (suc zero) x y refl refl (λ m. absurd (omega arith))), rest.1))

-- with a gap between them one ends no later than the other starts
pub one_after_another : (gap : ℕ) (r s : Reservation) → AreDisjoint gap r s → (end_of r ≤ s.start) ⊎ (end_of s ≤ r.start)
one_after_another gap r s (inl a) = inl (omega (arith, a))
one_after_another gap r s (inr b) = inr (omega (arith, b))

-- with a gap between them they are disjoint with each smaller one
disjoint_with_less : (gap less : ℕ) (r s : Reservation) → less ≤ gap → AreDisjoint gap r s → AreDisjoint less r s
disjoint_with_less gap less r s h (inl a) = inl (omega (arith, h, a))
disjoint_with_less gap less r s h (inr b) = inr (omega (arith, h, b))

pub gap_keeps_disjoint : (gap less : ℕ) (l : List Reservation) → less ≤ gap → IsLawful gap l → IsLawful less l
gap_keeps_disjoint gap less l h w =
    record {
      fit = w.fit;
      apart = λ i j r s e f n. disjoint_with_less gap less r s h (w.apart i j r s e f n);
      duty = w.duty;
    }
