use Rattle.std.specs.Prelude.{ℕ, ◌≡◌, ◌+◌, ◌<◌, ◌≤◌, nat_lt, nat_le, Bool, true, false, List, [], ◌∷◌, ◌++◌}
use Rattle.std.specs.Prelude.{Some, Option, cond}
use Rattle.std.specs.Option.{option_or}
use Rattle.std.proofs.Common.{refl, arith, ap, ◌∙◌, sym}
use Rattle.std.proofs.lemmas.Bool.{lt-ltb, le-ltb, le-leb, lt-leb}
use Rattle.resv_list.specs.Sorted.{RisesFrom, first_from, below, last, last_below}
use Rattle.resv_tree.proofs.SplitLemmas.{middle_from}

-- The members nearest to a moment, in a sorted list of some members, one between, and others.

module _ {X : Type 0} where
  last_behind : (ls : List X) (x : X) (rs : List X) → last (ls ++ x ∷ rs) ≡ last (x ∷ rs)
  last_behind [] x rs = refl
  last_behind (y ∷ []) x rs = refl
  last_behind (y ∷ z ∷ ls) x rs = last_behind (z ∷ ls) x rs

  last_stands : (x : X) (o : Option X) (rs : List X) → option_or (last (x ∷ rs)) o ≡ last (x ∷ rs)
  last_stands x o [] = refl
  last_stands x o (y ∷ rs) = last_stands y o rs

  last_of_more : (x : X) (rs : List X) → last (x ∷ rs) ≡ option_or (last rs) (Some x)
  last_of_more x [] = refl
  last_of_more x (y ∷ rs) = sym (last_stands y (Some x) rs)

module _ {X : Type 0} (key : X → ℕ) where
  none_below : (low k : ℕ) (rs : List X) → k ≤ low → RisesFrom key low rs → below key k rs ≡ []
  none_below low k [] h r = refl
  none_below low k (x ∷ rs) h r =
      let e : nat_lt (key x) k ≡ false = le-ltb (key x) k (omega arith) in
      rw e (none_below (key x + 1) k rs (omega arith) r.1)

  below_left : (low k : ℕ) (ls : List X) (x : X) (rs : List X) → RisesFrom key low (ls ++ x ∷ rs) → k ≤ key x
      → below key k (ls ++ x ∷ rs) ≡ below key k ls
  below_left low k [] x rs r h = none_below (key x) k (x ∷ rs) h (omega arith, r.1)
  below_left low k (y ∷ ls) x rs r h = rw (below_left (key y + 1) k ls x rs r.1 h) refl

  below_right : (low k : ℕ) (ls : List X) (x : X) (rs : List X) → RisesFrom key low (ls ++ x ∷ rs) → key x < k
      → below key k (ls ++ x ∷ rs) ≡ ls ++ x ∷ below key k rs
  below_right low k [] x rs r h = rw (lt-ltb (key x) k h) refl
  below_right low k (y ∷ ls) x rs r h =
      let m = middle_from key (key y + 1) ls x rs r.1 in
      let e : nat_lt (key y) k ≡ true = lt-ltb (key y) k (omega arith) in
      rw (e, below_right (key y + 1) k ls x rs r.1 h) refl

  pub last_left : (low k : ℕ) (ls : List X) (x : X) (rs : List X) → RisesFrom key low (ls ++ x ∷ rs) → k ≤ key x
      → last_below key k (ls ++ x ∷ rs) ≡ last_below key k ls
  last_left low k ls x rs r h = ap last (below_left low k ls x rs r h)

  pub last_right : (low k : ℕ) (ls : List X) (x : X) (rs : List X) → RisesFrom key low (ls ++ x ∷ rs) → key x < k
      → last_below key k (ls ++ x ∷ rs) ≡ option_or (last_below key k rs) (Some x)
  last_right low k ls x rs r h =
      ap last (below_right low k ls x rs r h) ∙ last_behind ls x (below key k rs) ∙ last_of_more x (below key k rs)

  first_by : (y : X) (o p : Option X) (q : Option X) (t : Bool) → q ≡ option_or o p
      → cond t (Some y) q ≡ option_or (cond t (Some y) o) p
  first_by y o p q true e = refl
  first_by y o p q false e = e

  pub first_left : (k : ℕ) (ls : List X) (x : X) (rs : List X) → k ≤ key x
      → first_from key k (ls ++ x ∷ rs) ≡ option_or (first_from key k ls) (Some x)
  first_left k [] x rs h = rw (le-leb k (key x) h) refl
  first_left k (y ∷ ls) x rs h =
      first_by y (first_from key k ls) (Some x) (first_from key k (ls ++ x ∷ rs)) (nat_le k (key y)) (first_left k ls x rs h)

  pub first_right : (low k : ℕ) (ls : List X) (x : X) (rs : List X) → RisesFrom key low (ls ++ x ∷ rs) → key x < k
      → first_from key k (ls ++ x ∷ rs) ≡ first_from key k rs
  first_right low k [] x rs r h = rw (lt-leb k (key x) h) refl
  first_right low k (y ∷ ls) x rs r h =
      let m = middle_from key (key y + 1) ls x rs r.1 in
      let e : nat_le k (key y) ≡ false = lt-leb k (key y) (omega arith) in
      rw e (first_right (key y + 1) k ls x rs r.1 h)
