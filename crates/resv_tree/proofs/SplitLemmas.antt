use Rattle.std.specs.Prelude.{ℕ, ◌≡◌, ◌+◌, ◌<◌, ◌≤◌, nat_lt, nat_le, Bool, true, false, not, List, [], ◌∷◌, ◌++◌, filter, find}
use Rattle.std.specs.Prelude.{Some, cond, ◌==◌}
use Rattle.std.proofs.Common.{refl, arith, ap}
use Rattle.std.proofs.lemmas.Bool.{lt-ltb, le-ltb, lt-leb}
use Rattle.std.proofs.lemmas.Bool.Decides.{nat_tests}
use Rattle.resv_list.specs.Sorted.{RisesFrom, place_by, rest_from}
use Rattle.resv_list.proofs.Walk.{rest_from-rises}
use Rattle.resv_list.proofs.SortedLaws.{RisesFrom-lower, at_none}

-- A sorted list of some members, one between, and others.

module _ {X : Type 0} (key : X → ℕ) where
  -- the one between is not below where the list begins
  pub middle_from : (low : ℕ) (ls : List X) (x : X) (rs : List X) → RisesFrom key low (ls ++ x ∷ rs) → low ≤ key x
  middle_from low [] x rs r = r.0
  middle_from low (y ∷ ls) x rs r = let h = middle_from (key y + 1) ls x rs r.1 in omega (arith, r.0, h)

  pub rises_left : (low : ℕ) (ls : List X) (x : X) (rs : List X) → RisesFrom key low (ls ++ x ∷ rs) → RisesFrom key low ls
  rises_left low [] x rs r = tt
  rises_left low (y ∷ ls) x rs r = (r.0, rises_left (key y + 1) ls x rs r.1)

  pub rises_behind : (low : ℕ) (ls : List X) (x : X) (rs : List X) → RisesFrom key low (ls ++ x ∷ rs) → RisesFrom key
      (key x + 1) rs
  rises_behind low [] x rs r = r.1
  rises_behind low (y ∷ ls) x rs r = rises_behind (key y + 1) ls x rs r.1

  pub rises_right : (low : ℕ) (ls : List X) (x : X) (rs : List X) → RisesFrom key low (ls ++ x ∷ rs) → RisesFrom key 0 rs
  rises_right low ls x rs r = RisesFrom-lower key 0 (key x + 1) rs (omega arith) (rises_behind low ls x rs r)

  placed_by : (y z : X) (ls : List X) (x : X) (rs : List X) (t : Bool)
      → place_by key y (ls ++ x ∷ rs) ≡ place_by key y ls ++ x ∷ rs
      → cond t (z ∷ place_by key y (ls ++ x ∷ rs)) (y ∷ z ∷ (ls ++ x ∷ rs))
      ≡ cond t (z ∷ place_by key y ls) (y ∷ z ∷ ls) ++ x ∷ rs
  placed_by y z ls x rs true e = ap (λ (q : List X). z ∷ q) e
  placed_by y z ls x rs false e = refl

  -- one more goes to the left where its key is not above that of the one between
  pub place_left : (y : X) (ls : List X) (x : X) (rs : List X) → key y ≤ key x
      → place_by key y (ls ++ x ∷ rs) ≡ place_by key y ls ++ x ∷ rs
  place_left y [] x rs h = rw (le-ltb (key x) (key y) h) refl
  place_left y (z ∷ ls) x rs h = placed_by y z ls x rs (nat_lt (key z) (key y)) (place_left y ls x rs h)

  -- and to the right where it is above
  pub place_right : (low : ℕ) (y : X) (ls : List X) (x : X) (rs : List X) → RisesFrom key low (ls ++ x ∷ rs) → key x < key y
      → place_by key y (ls ++ x ∷ rs) ≡ ls ++ x ∷ place_by key y rs
  place_right low y [] x rs r h = rw (lt-ltb (key x) (key y) h) refl
  place_right low y (z ∷ ls) x rs r h =
      let m = middle_from (key z + 1) ls x rs r.1 in
      let e : nat_lt (key z) (key y) ≡ true = lt-ltb (key z) (key y) (omega arith) in
      rw (e, place_right (key z + 1) y ls x rs r.1 h) refl

  -- from a key on: all to the right stays where the one between does
  pub rest_left : (low k : ℕ) (ls : List X) (x : X) (rs : List X) → RisesFrom key low (ls ++ x ∷ rs) → k ≤ key x
      → rest_from key k (ls ++ x ∷ rs) ≡ rest_from key k ls ++ x ∷ rs
  rest_left low k [] x rs r h = rest_from-rises key (key x) k (x ∷ rs) h (omega arith, r.1)
  rest_left low k (y ∷ ls) x rs r h = by (nat_le k (key y)) (rest_left (key y + 1) k ls x rs r.1 h)
    where
      by : (t : Bool) → rest_from key k (ls ++ x ∷ rs) ≡ rest_from key k ls ++ x ∷ rs
          → cond t (y ∷ rest_from key k (ls ++ x ∷ rs)) (rest_from key k (ls ++ x ∷ rs))
          ≡ cond t (y ∷ rest_from key k ls) (rest_from key k ls) ++ x ∷ rs
      by true e = ap (λ (q : List X). y ∷ q) e
      by false e = e

  -- and nothing to the left does where the one between doesn't
  pub rest_right : (low k : ℕ) (ls : List X) (x : X) (rs : List X) → RisesFrom key low (ls ++ x ∷ rs) → key x < k
      → rest_from key k (ls ++ x ∷ rs) ≡ rest_from key k rs
  rest_right low k [] x rs r h = rw (lt-leb k (key x) h) refl
  rest_right low k (y ∷ ls) x rs r h =
      let m = middle_from (key y + 1) ls x rs r.1 in
      let e : nat_le k (key y) ≡ false = lt-leb k (key y) (omega arith) in
      rw e (rest_right (key y + 1) k ls x rs r.1 h)

  -- what stands at a key is on its side
  pub at_left : (low at : ℕ) (ls : List X) (x : X) (rs : List X) → RisesFrom key low (ls ++ x ∷ rs) → at < key x
      → (find (λ y. key y == at) (ls ++ x ∷ rs) ≡ find (λ y. key y == at) ls)
      × (filter (λ y. not (key y == at)) (ls ++ x ∷ rs) ≡ filter (λ y. not (key y == at)) ls ++ x ∷ rs)
  at_left low at [] x rs r h =
      let e : (key x == at) ≡ false = grind (arith, nat_tests) in
      let rest = at_none key (key x + 1) at rs (omega arith) r.1 in
      (rw e rest.0, rw (e, rest.1) refl)
  at_left low at (z ∷ ls) x rs r h =
      let rest = at_left (key z + 1) at ls x rs r.1 h in
      by (key z == at) rest.0 rest.1
    where
      by : (t : Bool) → find (λ y. key y == at) (ls ++ x ∷ rs) ≡ find (λ y. key y == at) ls
          → filter (λ y. not (key y == at)) (ls ++ x ∷ rs) ≡ filter (λ y. not (key y == at)) ls ++ x ∷ rs
          → (cond t (Some z) (find (λ y. key y == at) (ls ++ x ∷ rs)) ≡ cond t (Some z) (find (λ y. key y == at) ls))
          × (cond (not t) (z ∷ filter (λ y. not (key y == at)) (ls ++ x ∷ rs)) (filter (λ y. not (key y == at)) (ls ++ x ∷ rs))
          ≡ cond (not t) (z ∷ filter (λ y. not (key y == at)) ls) (filter (λ y. not (key y == at)) ls) ++ x ∷ rs)
      by true f g = (refl, g)
      by false f g = (f, ap (λ (q : List X). z ∷ q) g)

  pub at_right : (low at : ℕ) (ls : List X) (x : X) (rs : List X) → RisesFrom key low (ls ++ x ∷ rs) → key x < at
      → (find (λ y. key y == at) (ls ++ x ∷ rs) ≡ find (λ y. key y == at) rs)
      × (filter (λ y. not (key y == at)) (ls ++ x ∷ rs) ≡ ls ++ x ∷ filter (λ y. not (key y == at)) rs)
  at_right low at [] x rs r h =
      let e : (key x == at) ≡ false = grind (arith, nat_tests) in
      (rw e refl, rw e refl)
  at_right low at (z ∷ ls) x rs r h =
      let m = middle_from (key z + 1) ls x rs r.1 in
      let e : (key z == at) ≡ false = grind (arith, nat_tests) in
      let rest = at_right (key z + 1) at ls x rs r.1 h in
      (rw e rest.0, rw (e, rest.1) refl)

  pub at_middle : (low at : ℕ) (ls : List X) (x : X) (rs : List X) → RisesFrom key low (ls ++ x ∷ rs) → key x ≡ at
      → (find (λ y. key y == at) (ls ++ x ∷ rs) ≡ Some x) × (filter (λ y. not (key y == at)) (ls ++ x ∷ rs) ≡ ls ++ rs)
  at_middle low at [] x rs r h =
      let e : (key x == at) ≡ true = grind (arith, nat_tests) in
      let rest = at_none key (key x + 1) at rs (omega arith) r.1 in
      (rw e refl, rw (e, rest.1) refl)
  at_middle low at (z ∷ ls) x rs r h =
      let m = middle_from (key z + 1) ls x rs r.1 in
      let e : (key z == at) ≡ false = grind (arith, nat_tests) in
      let rest = at_middle (key z + 1) at ls x rs r.1 h in
      (rw e rest.0, rw (e, rest.1) refl)
