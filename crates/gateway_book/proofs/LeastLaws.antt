use Rattle.std.specs.Prelude.{ℕ, ◌≡◌, ◌≤◌, ◌⊎◌, min, List, [], ◌∷◌, Option, Some, None, All, Contains, MatchOption}
use Rattle.std.proofs.Common.{refl, sym, subst, arith, zero, suc, inl, inr}
use Rattle.std.proofs.lemmas.Bool.{cases_lt}
use Rattle.std.proofs.lemmas.List.Elements.{All-cons}
use Rattle.gateway_book.specs.Least.{least, at_most}

the_less : (n m : ℕ) (ns : List ℕ) → Contains ns m → (n ≤ m) ⊎ (m ≤ n) → Contains (n ∷ ns) (min n m)
the_less n m ns c (inl h) =
    let e : min n m ≡ n = omega arith in
    let P : ℕ → Type 0 = λ x. Contains (n ∷ ns) x in
    subst P (sym e) (zero, omega arith, refl)
the_less n m ns c (inr h) =
    let e : min n m ≡ m = omega arith in
    let P : ℕ → Type 0 = λ x. Contains (n ∷ ns) x in
    subst P (sym e) (suc c.0, omega (arith, c.1), c.2)

order : (n m : ℕ) → (n ≤ m) ⊎ (m ≤ n)
order n m = elim (cases_lt n m) [ inl h ↦ inl (omega arith) | inr h ↦ inr h ]

least_cons : (n : ℕ) (ns : List ℕ) (o : Option ℕ) → MatchOption o (ns ≡ []) (λ m. Contains ns m × All (λ k. m ≤ k) ns)
    → Contains (n ∷ ns) (at_most n o) × All (λ k. at_most n o ≤ k) (n ∷ ns)
least_cons n [] None h = ((zero, omega arith, refl), All-cons (λ k. n ≤ k) n [] (omega arith) (λ k d l. absurd (omega arith)))
least_cons n (x ∷ ns) None h = absurd (cc)
least_cons n ns (Some m) h = (
  the_less n m ns h.0 (order n m),
  All-cons (λ k. min n m ≤ k) n ns (omega arith) (λ k d l. let g = h.1 k d l in omega arith),
)

pub least_is_least : (ns : List ℕ) → MatchOption (least ns) (ns ≡ []) (λ m. Contains ns m × All (λ n. m ≤ n) ns)
least_is_least [] = refl
least_is_least (n ∷ ns) = least_cons n ns (least ns) (least_is_least ns)
