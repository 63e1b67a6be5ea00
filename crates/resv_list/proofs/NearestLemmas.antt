-- The law on the members on either side of a moment.
use Rattle.std.proofs.Common.{◌≡◌, ℕ, ◌+◌, ◌<◌, ◌≤◌, Bool, true, false, nat_lt, nat_le, cond, List, [], ◌∷◌, Option, None, Some}
use Rattle.std.proofs.Common.{All, Contains, refl, ap, arith, zero, suc}
use Rattle.std.proofs.lemmas.Bool.{ltb-true, ltb-false, leb-true, leb-false}
use Rattle.resv_list.specs.declared.reservation.Reservation.{Reservation}
use Rattle.resv_list.specs.Reservations.{start_of, member_before, member_from}
use Rattle.resv_list.specs.Sorted.{RisesFrom, last, below}
use Rattle.resv_list.proofs.CutLemmas.{RisesFrom-get}
use Rattle.resv_list.specs.Nearest.{IsLastBefore, IsFirstFrom, NearestAreFound}

-- a test of the first member and of all others is one of all members
all_cons : (P : Reservation → Type 0) (x : Reservation) (xs : List Reservation) → P x → All P xs → All P (x ∷ xs)
all_cons P x xs h a zero d l = h
all_cons P x xs h a (suc k) d l = a k d (omega (arith, l))

-- a member of the others is a member
contains_cons : (x r : Reservation) (xs : List Reservation) → Contains xs r → Contains (x ∷ xs) r
contains_cons x r xs c = (suc c.0, omega (arith, c.1), c.2)

-- each of the others begins above the first
above : (x : Reservation) (xs : List Reservation) → RisesFrom start_of (x.start + 1) xs → All (λ s. x.start < s.start) xs
above x xs rises k d l = omega (arith, RisesFrom-get start_of (x.start + 1) xs k d rises l)

above_member : (x r : Reservation) (xs : List Reservation) → RisesFrom start_of (x.start + 1) xs → Contains xs r
    → x.start < r.start
above_member x r xs rises c = omega (arith, above x xs rises c.0 r c.1, ap start_of c.2)

first_by : (start : ℕ) (x : Reservation) (xs : List Reservation) (t : Bool) (o : Option Reservation) → nat_le start x.start ≡ t
    → RisesFrom start_of (x.start + 1) xs → IsFirstFrom xs start o → IsFirstFrom (x ∷ xs) start (cond t (Some x) o)
first_by start x xs true o e rises is =
    let from : start ≤ x.start = leb-true start x.start e in
    let others : All (λ s. start ≤ s.start → x.start ≤ s.start) xs = λ k d l h. omega (arith, above x xs rises k d l) in
    ((zero, omega arith, refl), from, all_cons (λ s. start ≤ s.start → x.start ≤ s.start) x xs (λ h. omega arith) others)
first_by start x xs false None e rises is =
    all_cons (λ s. s.start < start) x xs (leb-false start x.start e) is
first_by start x xs false (Some r) e rises is =
    let past : x.start < start = leb-false start x.start e in (
      contains_cons x r xs is.0,
      is.1,
      all_cons (λ s. start ≤ s.start → r.start ≤ s.start) x xs
          (λ h. absurd (omega (arith, past, h))) is.2,
    )

first_is : (low start : ℕ) (l : List Reservation) → RisesFrom start_of low l → IsFirstFrom l start (member_from start l)
first_is low start [] rises = λ k d l. absurd (omega (arith, l))
first_is low start (x ∷ xs) rises =
    first_by start x xs (nat_le start x.start) (member_from start xs) refl rises.1 (first_is (x.start + 1) start xs rises.1)

-- the last of some members is none only where there is none
last_stands : (y : Reservation) (ys : List Reservation) → last (y ∷ ys) ≡ None → ⊥
last_stands y [] e = cc
last_stands y (z ∷ zs) e = last_stands z zs e

last_after : (start : ℕ) (x : Reservation) (xs : List Reservation) (o : Option Reservation) → x.start < start
    → RisesFrom start_of (x.start + 1) xs → (o ≡ None → ⊥) → IsLastBefore xs start o → IsLastBefore (x ∷ xs) start o
last_after start x xs None h rises some is = absurd (some refl)
last_after start x xs (Some r) h rises some is = (
  contains_cons x r xs is.0,
  is.1,
  all_cons (λ s. s.start < start → s.start ≤ r.start) x xs
      (λ g. omega (arith, above_member x r xs rises is.0)) is.2,
)

last_cons : (start : ℕ) (x : Reservation) (xs ys : List Reservation) → x.start < start → RisesFrom start_of (x.start + 1) xs
    → IsLastBefore xs start (last ys) → IsLastBefore (x ∷ xs) start (last (x ∷ ys))
last_cons start x xs [] h rises is =
    let others : All (λ s. s.start < start → s.start ≤ x.start) xs = λ k d l g. absurd (omega (arith, is k d l, g)) in
    ((zero, omega arith, refl), h, all_cons (λ s. s.start < start → s.start ≤ x.start) x xs (λ g. omega arith) others)
last_cons start x xs (y ∷ ys) h rises is =
    last_after start x xs (last (y ∷ ys)) h rises (last_stands y ys) is

last_skips : (start : ℕ) (x : Reservation) (xs : List Reservation) (o : Option Reservation) → start ≤ x.start
    → IsLastBefore xs start o → IsLastBefore (x ∷ xs) start o
last_skips start x xs None h is = all_cons (λ s. start ≤ s.start) x xs h is
last_skips start x xs (Some r) h is = (
  contains_cons x r xs is.0,
  is.1,
  all_cons (λ s. s.start < start → s.start ≤ r.start) x xs
      (λ g. absurd (omega (arith, h, g))) is.2,
)

last_by : (start : ℕ) (x : Reservation) (xs ys : List Reservation) (t : Bool) → nat_lt x.start start ≡ t
    → RisesFrom start_of (x.start + 1) xs → IsLastBefore xs start (last ys)
    → IsLastBefore (x ∷ xs) start (last (cond t (x ∷ ys) ys))
last_by start x xs ys true e rises is = last_cons start x xs ys (ltb-true x.start start e) rises is
last_by start x xs ys false e rises is = last_skips start x xs (last ys) (ltb-false x.start start e) is

last_is : (low start : ℕ) (l : List Reservation) → RisesFrom start_of low l → IsLastBefore l start (member_before start l)
last_is low start [] rises = λ k d l. absurd (omega (arith, l))
last_is low start (x ∷ xs) rises =
    last_by start x xs (below start_of start xs) (nat_lt x.start start) refl rises.1 (last_is (x.start + 1) start xs rises.1)

pub nearest_are_found : NearestAreFound
nearest_are_found l start rises = (last_is 0 start l rises, first_is 0 start l rises)
