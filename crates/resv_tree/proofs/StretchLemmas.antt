use Rattle.std.specs.Prelude.{ℕ, ◌≡◌, ◌+◌, ◌<◌, ◌≤◌, nat_lt, nat_le, Bool, true, false, ◌&&◌, List, [], ◌∷◌}
use Rattle.std.specs.Prelude.{◌++◌, map, cond}
use Rattle.std.proofs.Common.{refl, arith, sym, ap, ◌∙◌, subst}
use Rattle.std.proofs.lemmas.Bool.{lt-ltb, le-ltb, le-leb, lt-leb}
use Rattle.radio_bands.specs.declared.band.Band.{Band}
use Rattle.resv_list.specs.Sorted.{RisesFrom}
use Rattle.resv_tree.specs.declared.entry.Entry.{Entry}
use Rattle.resv_tree.specs.Entries.{key_of, IsByKey, Each, amount, moved, moved_in, CanMove, CanMoveIn}
use Rattle.resv_tree.specs.Shape.{Shape, entries, greatest_of, top_of}
use Rattle.resv_tree.specs.Parts.{IsMadeOf}
use Rattle.resv_tree.proofs.SplitLemmas.{middle_from, rises_behind}
use Rattle.resv_tree.proofs.EntryLemmas.{each, each-with, each-left, each-right, map-same, map-identity, map-parts}
use Rattle.resv_tree.proofs.EntryLemmas.{banded, amount_at}
use Rattle.resv_tree.proofs.OwingLemmas.{own_in_top}
use Rattle.resv_tree.proofs.TreeLemmas.{sides}

-- Own hours that change in a stretch, on a tree and on its sides.

-- no key is as high as the end of a stretch that has none
pub key_short : (e : Entry) → key_of e < 18446744073709551615
key_short e = let fit = e.reservation.fit.timely in omega (arith, fit)

pub keys_below : (low : ℕ) (ls : List Entry) (x : Entry) (rs : List Entry) → RisesFrom key_of low (ls ++ x ∷ rs)
    → Each (λ y. key_of y < key_of x) ls
keys_below low [] x rs r = tt
keys_below low (y ∷ ls) x rs r =
    let m = middle_from key_of (key_of y + 1) ls x rs r.1 in (omega (arith, m), keys_below (key_of y + 1) ls x rs r.1)

keys_from : (k low : ℕ) (xs : List Entry) → k ≤ low → RisesFrom key_of low xs → Each (λ y. k ≤ key_of y) xs
keys_from k low [] h r = tt
keys_from k low (x ∷ xs) h r = (omega (arith, h, r.0), keys_from k (key_of x + 1) xs (omega (arith, h, r.0)) r.1)

pub keys_above : (low : ℕ) (ls : List Entry) (x : Entry) (rs : List Entry) → RisesFrom key_of low (ls ++ x ∷ rs)
    → Each (λ y. key_of x + 1 ≤ key_of y) rs
keys_above low ls x rs r = keys_from (key_of x + 1) (key_of x + 1) rs (omega arith) (rises_behind key_of low ls x rs r)

module _ (more less : Band → ℕ) where
  -- before the stretch and behind it an entry stays, in it it doesn't
  stays_before : (from to : ℕ) (y : Entry) → key_of y < from → moved_in from to more less y ≡ y
  stays_before from to y h = rw (lt-leb from (key_of y) h) refl

  stays_behind : (from to : ℕ) (y : Entry) → to ≤ key_of y → moved_in from to more less y ≡ y
  stays_behind from to y h = by (nat_le from (key_of y)) (le-ltb (key_of y) to h)
    where
      by : (t : Bool) → nat_lt (key_of y) to ≡ false → cond (t && nat_lt (key_of y) to) (moved more less y) y ≡ y
      by true e = rw e refl
      by false e = refl

  moves_within : (from to : ℕ) (y : Entry) → from ≤ key_of y → key_of y < to → moved_in from to more less y ≡ moved more less y
  moves_within from to y h g = rw (le-leb from (key_of y) h, lt-ltb (key_of y) to g) refl

  -- its ends don't matter where they are far
  other_end : (from to end : ℕ) (y : Entry) → key_of y < to → key_of y < end
      → moved_in from to more less y ≡ moved_in from end more less y
  other_end from to end y h g = rw (lt-ltb (key_of y) to h, lt-ltb (key_of y) end g) refl

  other_start : (from start to : ℕ) (y : Entry) → from ≤ key_of y → start ≤ key_of y
      → moved_in from to more less y ≡ moved_in start to more less y
  other_start from start to y h g = rw (le-leb from (key_of y) h, le-leb start (key_of y) g) refl

  -- all of a tree
  pub moved_all : (from to : ℕ) (es : List Entry) → from ≡ 0 → to ≡ 18446744073709551615
      → map (moved more less) es ≡ map (moved_in from to more less) es
  moved_all from to es f g =
      map-same (moved more less) (moved_in from to more less) es
      (each (λ y. moved more less y ≡ moved_in from to more less y)
      (λ y. sym (moves_within from to y (omega (arith, f)) (omega (arith, g, key_short y)))) es)

  pub covered_all : (from to : ℕ) (es : List Entry) → from ≡ 0 → to ≡ 18446744073709551615
      → Each (CanMoveIn from to more less) es → Each (CanMove more less) es
  covered_all from to es f g c =
      each-with (CanMoveIn from to more less) (CanMoveIn from to more less) (CanMove more less)
      (λ y h k. h (omega (arith, f)) (omega (arith, g, key_short y))) es c c

  module _ {t l r : Shape} {e : Entry} where
    pub shifted_right : (from to : ℕ) → IsMadeOf t l e r → IsByKey (entries t) → key_of e < from
        → map (moved_in from to more less) (entries t) ≡ entries l ++ e ∷ map (moved_in from to more less) (entries r)
    shifted_right from to m b h =
        let f = moved_in from to more less in
        let low = keys_below 0 (entries l) e (entries r) (subst IsByKey m.entries b) in
        let left = map-same f (λ y. y) (entries l)
        (each-with (λ y. key_of y < key_of e) (λ y. key_of y < key_of e) (λ y. f y ≡ y)
        (λ y p q. stays_before from to y (omega (arith, p, h))) (entries l) low low)
        ∙ map-identity (λ y. y) (entries l) (λ y. refl) in
        ap (map f) m.entries ∙ map-parts f (entries l) e (entries r)
        ∙ (λ i. left i ++ stays_before from to e h i ∷ map f (entries r))

    pub shifted_left : (from to : ℕ) → IsMadeOf t l e r → IsByKey (entries t) → to ≤ key_of e
        → map (moved_in from to more less) (entries t) ≡ map (moved_in from to more less) (entries l) ++ e ∷ entries r
    shifted_left from to m b h =
        let f = moved_in from to more less in
        let high = keys_above 0 (entries l) e (entries r) (subst IsByKey m.entries b) in
        let right = map-same f (λ y. y) (entries r)
        (each-with (λ y. key_of e + 1 ≤ key_of y) (λ y. key_of e + 1 ≤ key_of y) (λ y. f y ≡ y)
        (λ y p q. stays_behind from to y (omega (arith, p, h))) (entries r) high high)
        ∙ map-identity (λ y. y) (entries r) (λ y. refl) in
        ap (map f) m.entries ∙ map-parts f (entries l) e (entries r)
        ∙ (λ i. map f (entries l) ++ stays_behind from to e h i ∷ right i)

    pub shifted_middle : (from to : ℕ) → IsMadeOf t l e r → IsByKey (entries t) → from ≤ key_of e → key_of e < to
        → map (moved_in from to more less) (entries t)
        ≡ map (moved_in from 18446744073709551615 more less) (entries l)
        ++ moved more less e ∷ map (moved_in 0 to more less) (entries r)
    shifted_middle from to m b h g =
        let f = moved_in from to more less in
        let p = moved_in from 18446744073709551615 more less in
        let q = moved_in 0 to more less in
        let low = keys_below 0 (entries l) e (entries r) (subst IsByKey m.entries b) in
        let high = keys_above 0 (entries l) e (entries r) (subst IsByKey m.entries b) in
        let left = map-same f p (entries l)
        (each-with (λ y. key_of y < key_of e) (λ y. key_of y < key_of e) (λ y. f y ≡ p y)
        (λ y u v. other_end from to 18446744073709551615 y (omega (arith, u, g)) (key_short y)) (entries l) low low) in
        let right = map-same f q (entries r)
        (each-with (λ y. key_of e + 1 ≤ key_of y) (λ y. key_of e + 1 ≤ key_of y) (λ y. f y ≡ q y)
        (λ y u v. other_start from 0 to y (omega (arith, u, h)) (omega arith)) (entries r) high high) in
        ap (map f) m.entries ∙ map-parts f (entries l) e (entries r)
        ∙ (λ i. left i ++ moves_within from to e h g i ∷ right i)

    pub covered_right_of : (from to : ℕ) → IsMadeOf t l e r → Each (CanMoveIn from to more less) (entries t)
        → Each (CanMoveIn from to more less) (entries r)
    covered_right_of from to m c =
        (each-right (CanMoveIn from to more less) (entries l) e (entries r)
        (subst (Each (CanMoveIn from to more less)) m.entries c)).1

    pub covered_left_of : (from to : ℕ) → IsMadeOf t l e r → Each (CanMoveIn from to more less) (entries t)
        → Each (CanMoveIn from to more less) (entries l)
    covered_left_of from to m c =
        each-left (CanMoveIn from to more less) (entries l) e (entries r) (subst (Each (CanMoveIn from to more less)) m.entries c)

    pub covered_low : (from to : ℕ) → IsMadeOf t l e r → IsByKey (entries t) → key_of e < to
        → Each (CanMoveIn from to more less) (entries t) → Each (CanMoveIn from 18446744073709551615 more less) (entries l)
    covered_low from to m b g c =
        each-with (λ y. key_of y < key_of e) (CanMoveIn from to more less) (CanMoveIn from 18446744073709551615 more less)
        (λ y u v f k. v f (omega (arith, u, g))) (entries l)
        (keys_below 0 (entries l) e (entries r) (subst IsByKey m.entries b)) (covered_left_of from to m c)

    pub covered_high : (from to : ℕ) → IsMadeOf t l e r → IsByKey (entries t) → from ≤ key_of e
        → Each (CanMoveIn from to more less) (entries t) → Each (CanMoveIn 0 to more less) (entries r)
    covered_high from to m b h c =
        each-with (λ y. key_of e + 1 ≤ key_of y) (CanMoveIn from to more less) (CanMoveIn 0 to more less)
        (λ y u v f k. v (omega (arith, u, h)) k) (entries r)
        (keys_above 0 (entries l) e (entries r) (subst IsByKey m.entries b)) (covered_right_of from to m c)

    pub own_fits : IsMadeOf t l e r → ((band : Band) → greatest_of t band + more band < 4294967296)
        → e.own + amount more e.reservation < 4294967296
    own_fits m h =
        let b = banded e.reservation in
        let own = own_in_top l r e (top_of l e r) refl in
        omega (
          arith,
          own,
          m.greatest b.band,
          h b.band,
          amount_at more e.reservation b,
          amount_at (top_of l e r) e.reservation b,
        )

    pub fits_left : IsMadeOf t l e r → ((band : Band) → greatest_of t band + more band < 4294967296)
        → (band : Band) → greatest_of l band + more band < 4294967296
    fits_left m h band = omega (arith, m.greatest band, h band)

    pub fits_right : IsMadeOf t l e r → ((band : Band) → greatest_of t band + more band < 4294967296)
        → (band : Band) → greatest_of r band + more band < 4294967296
    fits_right m h band = omega (arith, m.greatest band, h band)

pub ruleset shifting = (
  fits_left,
  fits_right,
  sides,
  moved_all,
  covered_all,
  shifted_right,
  shifted_left,
  shifted_middle,
  covered_right_of,
  covered_left_of,
  covered_low,
  covered_high,
  own_fits,
)
