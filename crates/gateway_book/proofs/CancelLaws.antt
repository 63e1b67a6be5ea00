use Rattle.std.specs.Prelude.{ℕ, ◌≡◌, ◌≢◌, ◌+◌, ◌<◌, ◌≤◌, nat_le, ◌==◌, Bool, true, false, not, List, [], ◌∷◌, length}
use Rattle.std.specs.Prelude.{Option, Some, None, filter, find, cond, refl, OnSome}
use Rattle.std.proofs.Common.{sym, ap, ◌∙◌, arith, subst}
use Rattle.std.proofs.lemmas.Bool.{leb-true, leb-false}
use Rattle.std.proofs.lemmas.Bool.Decides.{nat_tests}
use Rattle.radio_bands.specs.declared.band.Band.{Band}
use Rattle.resv_list.specs.declared.reservation.Reservation.{Reservation}
use Rattle.resv_list.specs.Sorted.{RisesFrom, first_from}
use Rattle.resv_list.proofs.SortedLaws.{at_none}
use Rattle.resv_list.specs.Begun.{begun-cons}
use Rattle.resv_list.specs.Reservations.{start_of, airtime_us, begun, net, IsByStart, member_from, without}
use Rattle.gateway_book.specs.Spaced.{SpacedFrom, keep_if}
use Rattle.gateway_book.proofs.SpacedLaws.{SpacedFrom-lower}
use Rattle.gateway_book.specs.Step.{is_named, without_named}

-- What is taken out of a list, and what the rest keeps.

-- a test that only a member at one key passes
module _ {X : Type 0} (key : X → ℕ) (test : X → Bool) (at : ℕ) (only : (x : X) → test x ≡ true → key x ≡ at) where
  fails : (x : X) (t : Bool) → test x ≡ t → key x ≢ at → t ≡ false
  fails x true e n = absurd (n (only x e))
  fails x false e n = refl

  -- nobody above the key passes
  pub none_above : (low : ℕ) (xs : List X) → at < low → RisesFrom key low xs
      → (find test xs ≡ None) × (filter (λ x. not (test x)) xs ≡ xs)
  none_above low [] h r = (refl, refl)
  none_above low (x ∷ xs) h r =
      let e : test x ≡ false = fails x (test x) refl (λ k. omega (arith, r.0)) in
      let rest = none_above (key x + 1) xs (omega (arith, r.0)) r.1 in
      (rw e rest.0, rw (e, rest.1) refl)

  none_by : (x : X) (xs : List X) (t : Bool) → nat_le at (key x) ≡ t → cond t (Some x) (first_from key at xs) ≡ None
      → (first_from key at xs ≡ None → (find test xs ≡ None) × (filter (λ y. not (test y)) xs ≡ xs))
      → (find test (x ∷ xs) ≡ None) × (filter (λ y. not (test y)) (x ∷ xs) ≡ x ∷ xs)
  none_by x xs true f g rest = absurd (cc)
  none_by x xs false f g rest =
      let e : test x ≡ false = fails x (test x) refl (λ k. omega (arith, leb-false at (key x) f)) in
      let i = rest g in
      (rw e i.0, rw (e, i.1) refl)

  -- where no member stands from the key on, none passes
  pub none_from : (xs : List X) → first_from key at xs ≡ None → (find test xs ≡ None) × (filter (λ x. not (test x)) xs ≡ xs)
  none_from [] e = (refl, refl)
  none_from (x ∷ xs) e = none_by x xs (nat_le at (key x)) refl e (none_from xs)

  abbrev IsOnlyFirst : List X → X → Type 0
  IsOnlyFirst xs m =
      (find test xs ≡ cond (test m) (Some m) None) × (filter (λ x. not (test x)) xs
      ≡ cond (test m) (filter (λ x. not (key x == at)) xs) xs)

  found_own : (low : ℕ) (x : X) (xs : List X) (u : Bool) → test x ≡ u → at ≤ key x → RisesFrom key (key x + 1) xs
      → (cond u (Some x) (find test xs) ≡ cond u (Some x) None)
      × (cond (not u) (x ∷ filter (λ y. not (test y)) xs) (filter (λ y. not (test y)) xs)
      ≡ cond u (filter (λ y. not (key y == at)) (x ∷ xs)) (x ∷ xs))
  found_own low x xs true e h r =
      let k : key x ≡ at = only x e in
      let own : (key x == at) ≡ true = grind (arith, nat_tests) in
      let rest = none_above (key x + 1) xs (omega arith) r in
      let others = at_none key (key x + 1) at xs (omega arith) r in
      (refl, rw (own, rest.1, others.1) refl)
  found_own low x xs false e h r =
      let rest = none_above (key x + 1) xs (omega arith) r in
      (rest.0, rw rest.1 refl)

  cons_by : (x : X) (v : Bool) (fs yes_ no_ : List X) → fs ≡ cond v yes_ no_ → x ∷ fs ≡ cond v (x ∷ yes_) (x ∷ no_)
  cons_by x true fs yes_ no_ e = ap (λ (ys : List X). x ∷ ys) e
  cons_by x false fs yes_ no_ e = ap (λ (ys : List X). x ∷ ys) e

  first_by : (low : ℕ) (x : X) (xs : List X) (m : X) (t : Bool) → nat_le at (key x) ≡ t → RisesFrom key low (x ∷ xs)
      → cond t (Some x) (first_from key at xs) ≡ Some m → (first_from key at xs ≡ Some m → IsOnlyFirst xs m)
      → IsOnlyFirst (x ∷ xs) m
  first_by low x xs m true f r g rest =
      let same : x ≡ m = cc in
      let P : X → Type 0 = λ y. IsOnlyFirst (x ∷ xs) y in
      subst P same (found_own low x xs (test x) refl (leb-true at (key x) f) r.1)
  first_by low x xs m false f r g rest =
      let below : key x < at = leb-false at (key x) f in
      let e : test x ≡ false = fails x (test x) refl (λ k. omega arith) in
      let other : (key x == at) ≡ false = grind (arith, nat_tests) in
      let i = rest g in
      (rw e i.0, rw (e, other) (cons_by x (test m) (filter (λ y. not (test y)) xs) (filter (λ y. not (key y == at)) xs) xs i.1))

  -- where a member does, it is the only one that can pass
  pub only_first : (low : ℕ) (xs : List X) (m : X) → RisesFrom key low xs → first_from key at xs ≡ Some m
      → (find test xs ≡ cond (test m) (Some m) None) × (filter (λ x. not (test x)) xs
      ≡ cond (test m) (filter (λ x. not (key x == at)) xs) xs)
  only_first low [] m r e = absurd (cc)
  only_first low (x ∷ xs) m r e = first_by low x xs m (nat_le at (key x)) refl r e (only_first (key x + 1) xs m r.1)

-- what the rest of a list keeps, whatever is taken out
module _ {X : Type 0} (key end : X → ℕ) (positive : (x : X) → key x < end x) (test : X → Bool) where
  spaced_by : (low : ℕ) (x : X) (xs : List X) (t : Bool) → SpacedFrom key end low (x ∷ xs)
      → SpacedFrom key end (end x) (filter test xs) → SpacedFrom key end low (cond t (x ∷ filter test xs) (filter test xs))
  spaced_by low x xs true s f = (s.0, f)
  spaced_by low x xs false s f = let p = positive x in SpacedFrom-lower key end positive low (end x) (filter test xs)
      (omega (arith, s.0)) f

  pub SpacedFrom-filter : (low : ℕ) (xs : List X) → SpacedFrom key end low xs → SpacedFrom key end low (filter test xs)
  SpacedFrom-filter low [] s = tt
  SpacedFrom-filter low (x ∷ xs) s = spaced_by low x xs (test x) s (SpacedFrom-filter (end x) xs s.1)

fewer_by : {X : Type 0} (x : X) (ys xs : List X) (t : Bool) → length ys ≤ length xs
    → length (cond t (x ∷ ys) ys) ≤ length (x ∷ xs)
fewer_by x ys xs true h = omega arith
fewer_by x ys xs false h = omega arith

pub fewer : {X : Type 0} (test : X → Bool) (xs : List X) → length (filter test xs) ≤ length xs
fewer test [] = omega arith
fewer test (x ∷ xs) = fewer_by x (filter test xs) xs (test x) (fewer test xs)

less_by : (band : Band) (from to : ℕ) (test : Reservation → Bool) (r : Reservation) (rs : List Reservation) (t : Bool)
    → begun band from to (filter test rs) ≤ begun band from to rs
    → begun band from to (cond t (r ∷ filter test rs) (filter test rs)) ≤ begun band from to (r ∷ rs)
less_by band from to test r rs true h = omega (arith, begun-cons band from to r (filter test rs), begun-cons band from to r rs)
less_by band from to test r rs false h = omega (arith, begun-cons band from to r rs)

pub begun-filter : (band : Band) (from to : ℕ) (test : Reservation → Bool) (l : List Reservation)
    → begun band from to (filter test l) ≤ begun band from to l
begun-filter band from to test [] = omega arith
begun-filter band from to test (r ∷ rs) = less_by band from to test r rs (test r) (begun-filter band from to test rs)

-- the airtime of the one that is taken out
net_without_by : (r s : Reservation) (ss : List Reservation) (low : ℕ) (t : Bool) → (s.start == r.start) ≡ t
    → RisesFrom start_of (s.start + 1) ss → cond t (Some s) (find (λ q. q.start == r.start) ss) ≡ Some r
    → (find (λ q. q.start == r.start) ss ≡ Some r → net (without r.start ss) + airtime_us r ≡ net ss)
    → net (cond (not t) (s ∷ without r.start ss) (without r.start ss)) + airtime_us r ≡ airtime_us s + net ss
unfolding net
net_without_by r s ss low true e h f rest =
    let same : s ≡ r = cc in
    let k : s.start ≡ r.start = ap start_of same in
    let none = at_none start_of (s.start + 1) r.start ss (omega arith) h in
    let n : net (without r.start ss) ≡ net ss = ap net none.1 in
    let a : airtime_us s ≡ airtime_us r = ap airtime_us same in
    omega arith
net_without_by r s ss low false e h f rest = omega (arith, rest f)

pub net-without : (r : Reservation) (low : ℕ) (l : List Reservation) → RisesFrom start_of low l
    → find (λ q. q.start == r.start) l ≡ Some r → net (without r.start l) + airtime_us r ≡ net l
unfolding net
net-without r low [] h e = absurd (cc)
net-without r low (s ∷ ss) h e = net_without_by r s ss low (s.start == r.start) refl h.1 e (net-without r (s.start + 1) ss h.1)

named_start : (number start : ℕ) (r : Reservation) → is_named number start r ≡ true → r.start ≡ start
named_start number start r e = grind (arith, nat_tests)

-- the member with a number and a start, as a look at the start finds it
pub named_found : (number start : ℕ) (l : List Reservation) (m : Reservation) (t : Bool) → is_named number start m ≡ t
    → IsByStart l → member_from start l ≡ Some m → (find (is_named number start) l ≡ cond t (Some m) None)
    × (without_named l number start ≡ cond t (without start l) l)
named_found number start l m t e s f =
    let o = only_first start_of (is_named number start) start (named_start number start) 0 l m s f in
    (rw e at o.0, rw e at o.1)

pub named_none : (number start : ℕ) (l : List Reservation) → member_from start l ≡ None → find (is_named number start) l ≡ None
named_none number start l f = (none_from start_of (is_named number start) start (named_start number start) l f).0

-- what is kept of the first member from the start on, if there is one
pub named_kept : (number start : ℕ) (l : List Reservation) (o : Option Reservation) → IsByStart l → member_from start l ≡ o
    → (keep_if (is_named number start) o ≡ find (is_named number start) l)
    × OnSome (keep_if (is_named number start) o) (without start l ≡ without_named l number start)
named_kept number start l None s f = (sym (named_none number start l f), tt)
named_kept number start l (Some m) s f = by_test (is_named number start m) refl
  where
    by_test : (t : Bool) → is_named number start m ≡ t
        → (cond t (Some m) None ≡ find (is_named number start) l)
        × OnSome (cond t (Some m) None) (without start l ≡ without_named l number start)
    by_test true e = let n = named_found number start l m true e s f in (sym n.0, sym n.1)
    by_test false e = (sym (named_found number start l m false e s f).0, tt)

-- it is the member at that start
at_by : (number start : ℕ) (r m : Reservation) (ms : List Reservation) (t : Bool) → is_named number start m ≡ t
    → RisesFrom start_of (m.start + 1) ms → cond t (Some m) (find (is_named number start) ms) ≡ Some r
    → (find (is_named number start) ms ≡ Some r → (r.start ≡ start) × (find (λ q. q.start == r.start) ms ≡ Some r)
    × (m.start + 1 ≤ r.start)) → (r.start ≡ start) × (find (λ q. q.start == r.start) (m ∷ ms) ≡ Some r) × (m.start ≤ r.start)
at_by number start r m ms true e h f rest =
    let same : m ≡ r = cc in
    let k : m.start ≡ r.start = ap start_of same in
    let own : (m.start == r.start) ≡ true = grind (arith, nat_tests) in
    (sym k ∙ named_start number start m e, rw own (ap Some same), omega arith)
at_by number start r m ms false e h f rest =
    let i = rest f in
    let other : (m.start == r.start) ≡ false = grind (arith, nat_tests, i.2) in
    (i.0, rw other i.1, omega (arith, i.2))

named_at : (number start low : ℕ) (l : List Reservation) (r : Reservation) → RisesFrom start_of low l
    → find (is_named number start) l ≡ Some r → (r.start ≡ start) × (find (λ q. q.start == r.start) l ≡ Some r) × (low ≤ r.start)
named_at number start low [] r h f = absurd (cc)
named_at number start low (m ∷ ms) r h f =
    let g = at_by number start r m ms (is_named number start m) refl h.1 f (named_at number start (m.start + 1) ms r h.1) in
    (g.0, g.1, omega (arith, h.0, g.2))

pub named_member : (number start : ℕ) (l : List Reservation) (r : Reservation) → IsByStart l
    → find (is_named number start) l ≡ Some r → (r.start ≡ start) × (find (λ q. q.start == r.start) l ≡ Some r)
named_member number start l r s f = let g = named_at number start 0 l r s f in (g.0, g.1)

-- what is taken out has the airtime that the list loses
pub net_named : (l : List Reservation) (number start : ℕ) (r : Reservation) → IsByStart l
    → find (is_named number start) l ≡ Some r → without start l ≡ without_named l number start
    → net (without_named l number start) + airtime_us r ≡ net l
net_named l number start r o f w =
    let at = named_member number start l r o f in
    let k : r.start ≡ start = at.0 in
    let e : net (without r.start l) + airtime_us r ≡ net l = net-without r 0 l o at.1 in
    let g : net (without r.start l) ≡ net (without start l) = ap (λ (n : ℕ). net (without n l)) k in
    let h : net (without start l) ≡ net (without_named l number start) = ap net w in
    omega arith
