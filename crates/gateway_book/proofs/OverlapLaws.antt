use Rattle.std.specs.Prelude.{ℕ, ◌≡◌, ◌<◌, ◌≤◌, nat_lt, nat_le, Bool, true, false, List, [], ◌∷◌, Option, Some, None, find, cond}
use Rattle.std.specs.Prelude.{unwrap_or, ◌↔◌}
use Rattle.std.proofs.Common.{refl, sym, ap, ◌∙◌, arith}
use Rattle.std.proofs.lemmas.Bool.{leb-true, leb-false, le-leb, lt-leb, lt-ltb, le-ltb, ltb-true, ltb-false}
use Rattle.std.proofs.lemmas.Bool.Decides.{nat_tests}
use Rattle.resv_list.specs.Sorted.{last, below, last_below, first_from}
use Rattle.gateway_book.specs.Disjoint.{overlaps, rested_from}
use Rattle.gateway_book.specs.Spaced.{keep_if, SpacedFrom}
use Rattle.std.specs.Option.{option_map}
use Rattle.resv_list.specs.declared.reservation.Reservation.{Reservation}
use Rattle.resv_list.specs.Reservations.{start_of, IsByStart, member_before, member_from}
use Rattle.gateway_book.specs.Lawful.{AreApart}
use Rattle.gateway_book.specs.Answer.{overlap}
use Rattle.gateway_book.proofs.ApartLaws.{first_has_least_start, spaced_apart, apart_spaced, rests_later}
use Rattle.std.specs.Prelude.{◌+◌}

-- Only two neighbours of what is asked for can overlap it: the last member that begins before it, and
-- the first that doesn't.

abbrev pub or_else : {X : Type 0} → Option X → Option X → Option X
or_else None o = o
or_else (Some x) o = Some x

pub last-cons : {X : Type 0} (x : X) (ys : List X) → last (x ∷ ys) ≡ Some (unwrap_or (last ys) x)
last-cons x [] = refl
last-cons x (y ∷ ys) = last-cons y ys ∙ sym (ap (λ o. Some (unwrap_or o x)) (last-cons y ys))

module _ {X : Type 0} (key end : X → ℕ) (positive : (x : X) → key x < end x) where
  -- from a limit on, no member lies below it
  none_below : (low from : ℕ) (xs : List X) → from ≤ low → SpacedFrom key end low xs → below key from xs ≡ []
  none_below low from [] h s = refl
  none_below low from (x ∷ xs) h s =
      let e : nat_lt (key x) from ≡ false = le-ltb (key x) from (omega arith) in
      let p = positive x in
      rw (e, none_below (end x) from xs (omega arith) s.1) refl

  -- what begins where the asked ends, or later, doesn't overlap it
  none_after : (low from to : ℕ) (xs : List X) → to ≤ low → SpacedFrom key end low xs → find (overlaps key end from to) xs ≡ None
  none_after low from to [] h s = refl
  none_after low from to (x ∷ xs) h s =
      let p = positive x in
      let e : overlaps key end from to x ≡ false = grind (arith, nat_tests) in
      rw (e, none_after (end x) from to xs (omega arith) s.1) refl

  -- the only two members that can overlap what covers `from` up to `to`
  abbrev pub neighbour_before : ℕ → List X → Option X
  neighbour_before from xs = keep_if (λ b. nat_lt from (end b)) (last_below key from xs)

  abbrev pub neighbour_from : ℕ → ℕ → List X → Option X
  neighbour_from from to xs = keep_if (λ n. nat_lt (key n) to) (first_from key from xs)

  -- it begins no earlier than what is asked for
  begins_later : (from to : ℕ) (x : X) (xs : List X) (u : Bool) → nat_lt (key x) to ≡ u → from < to → from ≤ key x
      → SpacedFrom key end (key x) (x ∷ xs) → cond (overlaps key end from to x) (Some x) (find (overlaps key end from to) xs)
      ≡ cond u (Some x) None
  begins_later from to x xs true e h k s =
      let p = positive x in
      let o : overlaps key end from to x ≡ true = grind (arith, nat_tests) in
      rw o refl
  begins_later from to x xs false e h k s =
      let p = positive x in
      let l : to ≤ key x = ltb-false (key x) to e in
      let o : overlaps key end from to x ≡ false = grind (arith, nat_tests) in
      rw (o, none_after (end x) from to xs (omega arith) s.1) refl

  -- it ends no later than what is asked for begins
  same_before : (from : ℕ) (x : X) (o : Option X) → nat_lt from (end x) ≡ false
      → keep_if (λ b. nat_lt from (end b)) o ≡ keep_if (λ b. nat_lt from (end b)) (Some (unwrap_or o x))
  same_before from x None e = rw e refl
  same_before from x (Some b) e = refl

  begins_before : (from to : ℕ) (x : X) (xs : List X) (u : Bool) → nat_le (end x) from ≡ u → from < to → key x < from
      → SpacedFrom key end (end x) xs → find (overlaps key end from to) xs
      ≡ or_else (neighbour_before from xs) (neighbour_from from to xs)
      → cond (overlaps key end from to x) (Some x) (find (overlaps key end from to) xs)
      ≡ or_else (keep_if (λ b. nat_lt from (end b)) (Some (unwrap_or (last_below key from xs) x))) (neighbour_from from to xs)
  begins_before from to x xs true e h k s rest =
      let l : end x ≤ from = leb-true (end x) from e in
      let o : overlaps key end from to x ≡ false = rw e refl in
      let f : nat_lt from (end x) ≡ false = le-ltb from (end x) l in
      rw o (rest ∙ ap (λ n. or_else n (neighbour_from from to xs)) (same_before from x (last_below key from xs) f))
  begins_before from to x xs false e h k s rest =
      let l : from < end x = leb-false (end x) from e in
      let o : overlaps key end from to x ≡ true = grind (arith, nat_tests) in
      let f : nat_lt from (end x) ≡ true = lt-ltb from (end x) l in
      let n : below key from xs ≡ [] = none_below (end x) from xs (omega arith) s in
      rw (o, n, f) refl

  neighbours_by : (low from to : ℕ) (x : X) (xs : List X) (t : Bool) → nat_lt (key x) from ≡ t → from < to
      → SpacedFrom key end low (x ∷ xs) → find (overlaps key end from to) xs
      ≡ or_else (neighbour_before from xs) (neighbour_from from to xs)
      → find (overlaps key end from to) (x ∷ xs) ≡ or_else (neighbour_before from (x ∷ xs)) (neighbour_from from to (x ∷ xs))
  neighbours_by low from to x xs true e h s rest =
      let k : key x < from = ltb-true (key x) from e in
      let f : nat_le from (key x) ≡ false = lt-leb from (key x) k in
      begins_before from to x xs (nat_le (end x) from) refl h k s.1 rest ∙ (rw (e, f, last-cons x (below key from xs)) refl)
  neighbours_by low from to x xs false e h s rest =
      let p = positive x in
      let k : from ≤ key x = ltb-false (key x) from e in
      let f : nat_le from (key x) ≡ true = le-leb from (key x) k in
      let n : below key from xs ≡ [] = none_below (end x) from xs (omega arith) s.1 in
      let g : SpacedFrom key end (key x) (x ∷ xs) = (omega arith, s.1) in
      begins_later from to x xs (nat_lt (key x) to) refl h k g ∙ (rw (e, f, n) refl)

  -- what overlaps first is the neighbour before, or else the neighbour after
  pub find-neighbours : (low from to : ℕ) (xs : List X) → from < to → SpacedFrom key end low xs
      → find (overlaps key end from to) xs ≡ or_else (neighbour_before from xs) (neighbour_from from to xs)
  find-neighbours low from to [] h s = refl
  find-neighbours low from to (x ∷ xs) h s = neighbours_by low from to x xs (nat_lt (key x) from) refl h s
      (find-neighbours (end x) from to xs h s.1)

pub spaced_is_apart : (gap : ℕ) (l : List Reservation) → IsByStart l → SpacedFrom start_of (rested_from gap) 0 l ↔ AreApart gap l
spaced_is_apart gap l s = (λ h. spaced_apart gap 0 l h, λ a. apart_spaced gap 0 l s a)

-- only the last member that begins before what is asked for, and the first that doesn't, can overlap it
pub overlap-neighbours : (gap : ℕ) (l : List Reservation) (from to : ℕ) → IsByStart l → AreApart gap l → from < to
    → overlap gap l from to
    ≡ option_map start_of (or_else (keep_if (λ b. nat_lt from (rested_from gap b)) (member_before from l))
    (keep_if (λ n. nat_lt n.start (to + gap)) (member_from from l)))
unfolding overlap
overlap-neighbours gap l from to s a h =
    first_has_least_start _ l s
    ∙ ap (option_map start_of)
    (find-neighbours start_of (rested_from gap) (rests_later gap) 0 from (to + gap) l (omega (arith, h))
    (apart_spaced gap 0 l s a))
