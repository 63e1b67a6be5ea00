use Rattle.std.specs.Prelude.{ℕ, ◌≡◌, ◌+◌, ◌-◌, ◌≤◌, nat_lt, nat_le, not, filter, Bool, true, false, List, [], ◌∷◌, cond}
use Rattle.std.proofs.Common.{refl, sym, ap, ◌∙◌, arith}
use Rattle.std.proofs.lemmas.Bool.{le-ltb}
use Rattle.std.proofs.lemmas.Bool.Decides.{nat_tests}
use Rattle.radio_bands.specs.Band.{hour}
use Rattle.resv_list.specs.declared.reservation.Reservation.{Reservation}
use Rattle.resv_list.specs.Sorted.{RisesFrom, place_by, sort_by}
use Rattle.resv_list.proofs.SortedLaws.{RisesFrom-filter}
use Rattle.resv_list.proofs.FilterLemmas.{filter-alike, filter-swap, filter-stronger}
use Rattle.resv_list.proofs.NetLemmas.{net-cons}
use Rattle.resv_list.specs.Reservations.{start_of, IsByStart, place, airtime_us, net, members_before, members_from}
use Rattle.gateway_book.specs.Kept.{is_kept, kept, retired_of}

-- What is kept of a list that is by start.

module _ {X : Type 0} (key : X → ℕ) where
  -- in front of what begins later nothing moves
  place_by-first : (x : X) (xs : List X) → RisesFrom key (key x + 1) xs → place_by key x xs ≡ x ∷ xs
  place_by-first x [] r = refl
  place_by-first x (y ∷ ys) r =
      let e : nat_lt (key y) (key x) ≡ false = le-ltb (key y) (key x) (omega arith) in
      rw e refl

  -- a list that is in order stays as it is
  pub sort_by-rises : (low : ℕ) (xs : List X) → RisesFrom key low xs → sort_by key xs ≡ xs
  sort_by-rises low [] r = refl
  sort_by-rises low (x ∷ xs) r = rw (sort_by-rises (key x + 1) xs r.1) (place_by-first x xs r.1)

  filter_placed_by : (test : X → Bool) (x y : X) (ys : List X) (t u : Bool) → test y ≡ u → test x ≡ true
      → filter test (place_by key x ys) ≡ place_by key x (filter test ys)
      → RisesFrom key (key y + 1) (filter test ys) → nat_lt (key y) (key x) ≡ t
      → filter test (cond t (y ∷ place_by key x ys) (x ∷ y ∷ ys)) ≡ place_by key x (cond u (y ∷ filter test ys) (filter test ys))
  filter_placed_by test x y ys true true a b e r c = rw (a, c) (ap (λ (q : List X). y ∷ q) e)
  filter_placed_by test x y ys true false a b e r c = rw a e
  filter_placed_by test x y ys false true a b e r c = rw (a, b, c) refl
  filter_placed_by test x y ys false false a b e r c = rw (a, b) (sym (first_in (filter test ys) r))
    where
      first_in : (zs : List X) → RisesFrom key (key y + 1) zs → place_by key x zs ≡ x ∷ zs
      first_in [] s = refl
      first_in (z ∷ zs) s =
          let f : nat_lt (key z) (key x) ≡ false = grind (arith, nat_tests) in
          rw f refl

  -- one that passes has its place among those that pass
  pub filter-placed : (test : X → Bool) (low : ℕ) (x : X) (xs : List X) → test x ≡ true → RisesFrom key low xs
      → filter test (place_by key x xs) ≡ place_by key x (filter test xs)
  filter-placed test low x [] b r = rw b refl
  filter-placed test low x (y ∷ ys) b r =
      filter_placed_by test x y ys (nat_lt (key y) (key x)) (test y) refl b (filter-placed test (key y + 1) x ys b r.1)
      (RisesFrom-filter key test (key y + 1) ys r.1) refl

-- it is those whose hour reaches the floor
pub kept-filtered : (l : List Reservation) (floor : ℕ) → IsByStart l → kept l floor ≡ filter (is_kept floor) l
unfolding kept
kept-filtered l floor o = sort_by-rises start_of 0 (filter (is_kept floor) l) (RisesFrom-filter start_of (is_kept floor) 0 l o)

pub kept-by_start : (l : List Reservation) (floor : ℕ) → IsByStart l → IsByStart (kept l floor)
kept-by_start l floor o = rw (kept-filtered l floor o) (RisesFrom-filter start_of (is_kept floor) 0 l o)

-- what a later floor keeps an earlier one keeps
is_kept-sooner : (floor later : ℕ) → floor ≤ later → (r : Reservation) → is_kept later r ≡ true → is_kept floor r ≡ true
is_kept-sooner floor later h r e = grind (arith, nat_tests)

-- of what it becomes with one more member that is kept
pub kept-place : (r : Reservation) (l : List Reservation) (floor : ℕ) → IsByStart l → IsByStart (place r l)
    → floor ≤ r.start + hour → kept (place r l) floor ≡ place r (kept l floor)
kept-place r l floor o p h =
    let e : is_kept floor r ≡ true = grind (arith, nat_tests) in
    kept-filtered (place r l) floor p ∙ filter-placed start_of (is_kept floor) 0 r l e o
    ∙ ap (place r) (sym (kept-filtered l floor o))

-- of a part of it
pub kept-filter : (test : Reservation → Bool) (l : List Reservation) (floor : ℕ) → IsByStart l
    → kept (filter test l) floor ≡ filter test (kept l floor)
kept-filter test l floor o =
    kept-filtered (filter test l) floor (RisesFrom-filter start_of test 0 l o) ∙ filter-swap (is_kept floor) test l
    ∙ ap (filter test) (sym (kept-filtered l floor o))

-- of what was kept of it at an earlier floor
pub kept-later : (l : List Reservation) (floor later : ℕ) → IsByStart l → floor ≤ later → kept (kept l floor) later ≡ kept l later
kept-later l floor later o h =
    kept-filtered (kept l floor) later (kept-by_start l floor o)
    ∙ ap (filter (is_kept later)) (kept-filtered l floor o)
    ∙ filter-stronger (is_kept later) (is_kept floor) (is_kept-sooner floor later h) l
    ∙ sym (kept-filtered l later o)

pub kept-twice : (l : List Reservation) (floor : ℕ) → IsByStart l → kept (kept l floor) floor ≡ kept l floor
kept-twice l floor o = kept-later l floor floor o (omega arith)

-- and of nothing
pub kept-nil : (floor : ℕ) → kept [] floor ≡ []
kept-nil floor = kept-filtered [] floor tt

-- what begins no earlier than an hour before the floor is kept, and what begins earlier is not
pub kept-from : (l : List Reservation) (floor : ℕ) → IsByStart l → kept l floor ≡ members_from (floor - hour) l
kept-from l floor o =
    kept-filtered l floor o ∙ filter-alike (is_kept floor) (λ r. nat_le (floor - hour) r.start) same l
  where
    same : (r : Reservation) → is_kept floor r ≡ nat_le (floor - hour) r.start
    same r = grind (arith, nat_tests)

pub retired-before : (l : List Reservation) (floor : ℕ) → retired_of l floor ≡ members_before (floor - hour) l
retired-before l floor = filter-alike (λ r. not (is_kept floor r)) (λ r. nat_lt r.start (floor - hour)) same l
  where
    same : (r : Reservation) → not (is_kept floor r) ≡ nat_lt r.start (floor - hour)
    same r = grind (arith, nat_tests)

-- one more member adds its airtime
net_placed : (r s : Reservation) (ss : List Reservation) (t : Bool) → net (place r ss) ≡ airtime_us r + net ss
    → net (cond t (s ∷ place r ss) (r ∷ s ∷ ss)) ≡ airtime_us r + (airtime_us s + net ss)
net_placed r s ss true h = omega (arith, h, net-cons s (place r ss))
net_placed r s ss false h = omega (arith, net-cons r (s ∷ ss), net-cons s ss)

pub net-place : (r : Reservation) (l : List Reservation) → net (place r l) ≡ airtime_us r + net l
net-place r [] = net-cons r []
net-place r (s ∷ ss) =
    net_placed r s ss (nat_lt s.start r.start) (net-place r ss) ∙ ap (λ n. airtime_us r + n) (sym (net-cons s ss))
