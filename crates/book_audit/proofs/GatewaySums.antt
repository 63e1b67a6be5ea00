-- Sums over gateways: over some numbers of what those add that are among others, and over all of these.
use Rattle.std.proofs.Common.{ℕ, ◌≡◌, ◌≢◌, ◌+◌, Bool, true, false, if◌then◌else◌, List, [], ◌∷◌, refl, ap, sym, arith, subst}
use Rattle.std.specs.Prelude.{◌==◌, All, AllPairs}
use Rattle.std.proofs.lemmas.Bool.Decides.{nat_tests}
use Rattle.std.proofs.lemmas.List.Elements.{All-head, All-tail}
use Rattle.server_desk.specs.Register.{is_among}
use Rattle.rx_windows.proofs.RankLaws.{AllPairs-head, AllPairs-tail}

module _ (f : ℕ → ℕ) where
  -- what a number adds, if it is among these
  abbrev pub own : List ℕ → ℕ → ℕ
  own ids g = if is_among ids g then f g else 0

  -- what some numbers add together, each if it is among these
  abbrev pub over : List ℕ → List ℕ → ℕ
  over ids [] = 0
  over ids (g ∷ gs) = own ids g + over ids gs

  -- what all of these add together
  abbrev pub whole : List ℕ → ℕ
  whole [] = 0
  whole (i ∷ ids) = f i + whole ids

  not_among : (x : ℕ) (ids : List ℕ) → All (λ y. x ≢ y) ids → is_among ids x ≡ false
  not_among x [] a = refl
  not_among x (i ∷ ids) a =
      let other = All-head (λ y. x ≢ y) i ids a in
      let none : (i == x) ≡ false = grind (arith, nat_tests, other) in
      rw none (not_among x ids (All-tail (λ y. x ≢ y) i ids a))

  more_by : (i g : ℕ) (ids gs : List ℕ) (t : Bool) → (i == g) ≡ t → is_among ids i ≡ false → All (λ y. g ≢ y) gs
      → over (i ∷ ids) gs ≡ over ids gs + own gs i → over (i ∷ ids) (g ∷ gs) ≡ over ids (g ∷ gs) + own (g ∷ gs) i
  more_by i g ids gs true q none a rest =
      let same : i ≡ g = grind (arith, nat_tests, q) in
      let there : (g == i) ≡ true = grind (arith, nat_tests, same) in
      let none_g : is_among ids g ≡ false = subst (λ x. is_among ids x ≡ false) same none in
      let once : is_among gs i ≡ false = subst (λ x. is_among gs x ≡ false) (sym same) (not_among g gs a) in
      let left : own gs i ≡ 0 = rw once refl in
      rw (q, there, none_g) (omega (arith, rest, left, ap f same))
  more_by i g ids gs false q none a rest =
      let other : (g == i) ≡ false = grind (arith, nat_tests, q) in
      rw (q, other) (omega (arith, rest))

  -- one number more among which they may be
  one_more : (i : ℕ) (ids gs : List ℕ) → is_among ids i ≡ false → AllPairs (λ a b. a ≢ b) gs
      → over (i ∷ ids) gs ≡ over ids gs + own gs i
  one_more i ids [] none d = refl
  one_more i ids (g ∷ gs) none d =
      more_by i g ids gs (i == g) refl none (AllPairs-head (λ a b. a ≢ b) g gs d)
      (one_more i ids gs none (AllPairs-tail (λ a b. a ≢ b) g gs d))

  over_none : (gs : List ℕ) → over [] gs ≡ 0
  over_none [] = refl
  over_none (g ∷ gs) = omega (arith, over_none gs)

  own_is : (i : ℕ) (gs : List ℕ) (t : Bool) → is_among gs i ≡ t → (is_among gs i ≡ false → f i ≡ 0) → own gs i ≡ f i
  own_is i gs true q h = rw q refl
  own_is i gs false q h = rw q (sym (h q))

  -- where those that aren't among them add nothing
  pub all_over : (ids gs : List ℕ) → AllPairs (λ a b. a ≢ b) ids → AllPairs (λ a b. a ≢ b) gs
      → All (λ i. is_among gs i ≡ false → f i ≡ 0) ids → over ids gs ≡ whole ids
  all_over [] gs d e a = over_none gs
  all_over (i ∷ ids) gs d e a =
      let none = not_among i ids (AllPairs-head (λ a b. a ≢ b) i ids d) in
      omega (
        arith,
        one_more i ids gs none e,
        own_is i gs (is_among gs i) refl (All-head (λ i. is_among gs i ≡ false → f i ≡ 0) i ids a),
        all_over ids gs (AllPairs-tail (λ a b. a ≢ b) i ids d) e (All-tail (λ i. is_among gs i ≡ false → f i ≡ 0) i ids a),
      )
