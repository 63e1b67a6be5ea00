use Rattle.std.specs.Prelude.{◌≡◌, Bool, true, false, ◌&&◌, List, [], ◌∷◌, Some, None, filter, find, cond, Contains}
use Rattle.std.proofs.Common.{refl, sym, ap, ◌∙◌, arith, zero, suc}

-- Lists that pass two tests, one after the other.

in_turn : (s t : Bool) → (s && t) ≡ (t && s)
in_turn true true = refl
in_turn true false = refl
in_turn false true = refl
in_turn false false = refl

stronger_by : (s t : Bool) → (t ≡ true → s ≡ true) → (s && t) ≡ t
stronger_by true t h = refl
stronger_by false true h = h refl
stronger_by false false h = refl

module _ {X : Type 0} where
  pub filter-alike : (p q : X → Bool) → ((x : X) → p x ≡ q x) → (xs : List X) → filter p xs ≡ filter q xs
  filter-alike p q h xs = λ i. filter (λ x. h x i) xs

  both_by : (p q : X → Bool) (x : X) (xs : List X) (t : Bool) → filter p (filter q xs) ≡ filter (λ y. q y && p y) xs
      → filter p (cond t (x ∷ filter q xs) (filter q xs))
      ≡ cond (t && p x) (x ∷ filter (λ y. q y && p y) xs) (filter (λ y. q y && p y) xs)
  both_by p q x xs true e = λ i. cond (p x) (x ∷ e i) (e i)
  both_by p q x xs false e = e

  pub filter-both : (p q : X → Bool) (xs : List X) → filter p (filter q xs) ≡ filter (λ x. q x && p x) xs
  filter-both p q [] = refl
  filter-both p q (x ∷ xs) = both_by p q x xs (q x) (filter-both p q xs)

  pub filter-swap : (p q : X → Bool) (xs : List X) → filter p (filter q xs) ≡ filter q (filter p xs)
  filter-swap p q xs =
      filter-both p q xs ∙ filter-alike (λ x. q x && p x) (λ x. p x && q x) (λ x. in_turn (q x) (p x)) xs
      ∙ sym (filter-both q p xs)

  -- a test that only those pass that pass the other too
  pub filter-stronger : (p q : X → Bool) → ((x : X) → p x ≡ true → q x ≡ true) → (xs : List X)
      → filter p (filter q xs) ≡ filter p xs
  filter-stronger p q h xs =
      filter-both p q xs ∙ filter-alike (λ x. q x && p x) p (λ x. stronger_by (q x) (p x) (h x)) xs

  found_by : (p q : X → Bool) (x : X) (xs : List X) (t u : Bool) → p x ≡ u → (u ≡ true → t ≡ true)
      → find p (filter q xs) ≡ find p xs
      → find p (cond t (x ∷ filter q xs) (filter q xs)) ≡ cond u (Some x) (find p xs)
  found_by p q x xs true u e h rest = rw e (ap (cond u (Some x)) rest)
  found_by p q x xs false true e h rest = absurd (cc (h refl))
  found_by p q x xs false false e h rest = rest

  pub find-stronger : (p q : X → Bool) → ((x : X) → p x ≡ true → q x ≡ true) → (xs : List X) → find p (filter q xs) ≡ find p xs
  find-stronger p q h [] = refl
  find-stronger p q h (x ∷ xs) = found_by p q x xs (q x) (p x) refl (h x) (find-stronger p q h xs)

  alike_by : (p q : X → Bool) (x : X) (xs : List X) (t : Bool) → q x ≡ t → p x ≡ q x → find p xs ≡ find q xs
      → find p (x ∷ xs) ≡ cond t (Some x) (find q xs)
  alike_by p q x xs true e h rest = rw (h, e) refl
  alike_by p q x xs false e h rest = rw (h, e) rest

  -- two tests that agree on the members find the same
  pub find-alike : (p q : X → Bool) (xs : List X) → ((x : X) → Contains xs x → p x ≡ q x) → find p xs ≡ find q xs
  find-alike p q [] h = refl
  find-alike p q (x ∷ xs) h =
      alike_by p q x xs (q x) refl (h x (zero, omega arith, refl))
      (find-alike p q xs (λ y c. h y (suc c.0, omega (arith, c.1), c.2)))

  -- and one that no member passes finds nothing
  pub find-none : (p : X → Bool) (xs : List X) → ((x : X) → Contains xs x → p x ≡ false) → find p xs ≡ None
  find-none p [] h = refl
  find-none p (x ∷ xs) h =
      rw (h x (zero, omega arith, refl)) (find-none p xs (λ y c. h y (suc c.0, omega (arith, c.1), c.2)))
