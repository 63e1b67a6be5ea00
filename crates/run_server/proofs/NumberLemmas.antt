-- In a list by number, what has a number stands where the lesser numbers end.
use Rattle.std.proofs.Common.{◌≡◌, ◌≢◌, ℕ, zero, suc, ◌+◌, ◌-◌, ◌<◌, ◌≤◌, ◌==◌}
use Rattle.std.proofs.Common.{Bool, true, false, List, [], ◌∷◌, length, get_or, None, find}
use Rattle.std.proofs.Common.{refl, sym, ap, ◌∙◌, arith, nat_lt, add-one}
use Rattle.std.specs.Prelude.{slice_get}
use Rattle.std.specs.List.{AllWithin, IsAllAdjacentAnswer}
use Rattle.std.specs.List.Sorted.{IsNonDecreasingBy, IsPartitionPoint, IsStrictlyIncreasing}
use Rattle.std.specs.Bool.{then_some}
use Rattle.std.specs.Option.{option_and_then}
use Rattle.std.proofs.lemmas.Bool.Decides.{nat_tests}
use Rattle.run_server.specs.Numbered.{IsEndOfLesser}

module _ {X : Type 0} (key : X → ℕ) (n : ℕ) where
  lesser_is_other : (a : ℕ) → a < n → (a == n) ≡ false
  lesser_is_other a l = grind (arith, nat_tests, l)

  greater_is_other : (a : ℕ) → n < a → (a == n) ≡ false
  greater_is_other a l = grind (arith, nat_tests, l)

  -- what stands behind all lesser numbers and has this number is the first that has it
  found_here : (xs : List X) (at : ℕ) (x : X) → AllWithin (λ y. key y < n) xs 0 at → at < length xs
      → ((d : X) → x ≡ get_or xs at d) → key x ≡ n → slice_get xs at ≡ find (λ y. key y == n) xs
  found_here [] at x lesser within there e = absurd (omega (arith, within))
  found_here (y ∷ xs) zero x lesser within there e =
      let same : key y ≡ n = ap key (sym (there y)) ∙ e in
      let t : (key y == n) ≡ true = grind (arith, nat_tests, same) in
      rw t refl
  found_here (y ∷ xs) (suc at) x lesser within there e =
      rw (lesser_is_other (key y) (lesser 0 y (omega arith) (omega arith)))
      (found_here xs at x (λ k d a b. rw add-one at (lesser (k + 1) d (omega arith) (omega arith))) (omega (arith, within)) there
      e)

  -- none has it
  pub found_nowhere : (xs : List X) → ((k : ℕ) (d : X) → k < length xs → (key (get_or xs k d) == n) ≡ false)
      → None ≡ find (λ y. key y == n) xs
  found_nowhere [] h = refl
  found_nowhere (y ∷ xs) h =
      rw (h 0 y (omega arith)) (found_nowhere xs (λ k d l. rw add-one at (h (k + 1) d (omega (arith, l)))))

  -- where halving ends
  pub halved : (xs : List X) (at : ℕ) → at ≤ length xs
      → IsPartitionPoint (λ y. nat_lt (key y) n ≡ true) (λ y. nat_lt (key y) n ≡ false) xs at → IsEndOfLesser key n xs at
  halved xs at within point =
      record {
        within = within;
        lesser = λ k d a b. less (key (get_or xs k d)) (point.0 k d a b);
        others = λ k d a b. not_less (key (get_or xs k d)) (point.1 k d a b);
      } where
        less : (a : ℕ) → nat_lt a n ≡ true → a < n
        less a e = grind (arith, nat_tests, e)

        not_less : (a : ℕ) → nat_lt a n ≡ false → n ≤ a
        not_less a e = grind (arith, nat_tests, e)

  module _ (xs : List X) (rising : IsNonDecreasingBy key xs) (at : ℕ) where
    -- behind a lesser one, and at another
    pub between : at ≤ length xs → ((d : X) → 0 < at → key (get_or xs (at - 1) d) < n)
        → ((d : X) → at < length xs → n ≤ key (get_or xs at d)) → IsEndOfLesser key n xs at
    between within before there =
        record {
          within = within;
          lesser = λ k d a b.
              let last = before d (omega (arith, b)) in
              let up = rising k (at - 1) d (omega (arith, b)) (omega (arith, b, within)) in omega (arith, last, up);
          others = λ k d a b.
              let first = there d (omega (arith, a, b)) in
              let up = rising at k d a b in omega (arith, first, up);
        }

    module _ (end : IsEndOfLesser key n xs at) where
      -- where all numbers are lesser
      pub all_lesser : length xs ≤ at → None ≡ find (λ y. key y == n) xs
      all_lesser past =
          found_nowhere xs
          (λ k d l. lesser_is_other (key (get_or xs k d)) (end.lesser k d (omega arith) (omega (arith, l, past))))

      split : (k : ℕ) (d : X) (t : Bool) → nat_lt k at ≡ t → at < length xs → key (get_or xs at d) ≢ n → k < length xs
          → (key (get_or xs k d) == n) ≡ false
      split k d true e within other l =
          let less : k < at = grind (arith, nat_tests, e) in
          lesser_is_other (key (get_or xs k d)) (end.lesser k d (omega arith) less)
      split k d false e within other l =
          let past : at ≤ k = grind (arith, nat_tests, e) in
          let least : n ≤ key (get_or xs at d) = end.others at d (omega arith) within in
          let more : key (get_or xs at d) ≤ key (get_or xs k d) = rising at k d past l in
          let above : n < key (get_or xs at d) = strictly n (key (get_or xs at d)) least other in
          greater_is_other (key (get_or xs k d)) (omega (arith, above, more)) where
            strictly : (a b : ℕ) → a ≤ b → b ≢ a → a < b
            strictly a b le ne = grind (arith, nat_tests, le, ne)

      -- where the first that isn't lesser is another
      all_others : (x : X) → at < length xs → ((d : X) → x ≡ get_or xs at d) → key x ≢ n
          → None ≡ find (λ y. key y == n) xs
      all_others x within there other =
          found_nowhere xs (λ k d l. split k d (nat_lt k at) refl within (λ e. other (ap key (there d) ∙ e)) l)

      -- what stands there is told if it has the number
      pub told_by : (x : X) (t : Bool) → (key x == n) ≡ t → at < length xs → ((d : X) → x ≡ get_or xs at d)
          → option_and_then (slice_get xs) (then_some t at) ≡ find (λ y. key y == n) xs
      told_by x true e within there = found_here xs at x end.lesser within there (grind (arith, nat_tests, e))
      told_by x false e within there = all_others x within there (λ q. absurd (grind (arith, nat_tests, e, q)))

-- what `is_sorted_by` tells of numbers
pub increasing : (xs : List ℕ) (told : Bool) → IsAllAdjacentAnswer (λ x y b. b ≡ nat_lt x y) xs told → told ≡ true
    → IsStrictlyIncreasing xs
increasing xs false answer e k l = absurd (cc (e))
increasing xs true answer e k l = grind (arith, nat_tests, answer k 0 l)
