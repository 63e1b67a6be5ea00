use Rattle.std.specs.Prelude.{ℕ, ◌≡◌, ◌≢◌, ◌+◌, ◌≤◌, nat_le, Bool, true, false, List, [], ◌∷◌, Option, Some, None, All, map, cond}
use Rattle.std.specs.Prelude.{⊤}
use Rattle.std.proofs.Common.{refl, arith, zero, suc, subst}
use Rattle.std.proofs.lemmas.Bool.{leb-true, leb-false}
use Rattle.std.proofs.lemmas.List.Elements.{All-cons}
use Rattle.resv_list.specs.Sorted.{RisesFrom, first_from}

-- What is first from a key on tells whether a member has that very key.

module _ {X : Type 0} (key : X → ℕ) where
  -- of nothing found, or of a member found, that it has another key
  abbrev pub Misses : ℕ → Option X → Type 0
  Misses k None = ⊤
  Misses k (Some x) = key x ≢ k

  above : (k low : ℕ) (xs : List X) → k + 1 ≤ low → RisesFrom key low xs → All (λ n. n ≢ k) (map key xs)
  above k low [] h r i d l = absurd (omega arith)
  above k low (x ∷ xs) h r zero d l = let g = r.0 in omega arith
  above k low (x ∷ xs) h r (suc i) d l =
      let g = r.0 in
      above k (key x + 1) xs (omega arith) r.1 i d (omega arith)

  free_by : (k low : ℕ) (x : X) (xs : List X) (t : Bool) → nat_le k (key x) ≡ t → RisesFrom key low (x ∷ xs)
      → Misses k (cond t (Some x) (first_from key k xs)) → (Misses k (first_from key k xs) → All (λ n. n ≢ k) (map key xs))
      → All (λ n. n ≢ k) (map key (x ∷ xs))
  free_by k low x xs true e r m rest =
      let h : k ≤ key x = leb-true k (key x) e in
      All-cons (λ n. n ≢ k) (key x) (map key xs) m (above k (key x + 1) xs (omega arith) r.1)
  free_by k low x xs false e r m rest =
      let h = leb-false k (key x) e in
      All-cons (λ n. n ≢ k) (key x) (map key xs) (omega arith) (rest m)

  missed : (k low : ℕ) (xs : List X) → RisesFrom key low xs → Misses k (first_from key k xs) → All (λ n. n ≢ k) (map key xs)
  missed k low [] r m = λ i d l. absurd (omega arith)
  missed k low (x ∷ xs) r m = free_by k low x xs (nat_le k (key x)) refl r m (missed k (key x + 1) xs r.1)

  pub free_where_missed : (k low : ℕ) (xs : List X) (o : Option X) → o ≡ first_from key k xs → Misses k o → RisesFrom key low xs
      → All (λ n. n ≢ k) (map key xs)
  free_where_missed k low xs o e m r = missed k low xs r (subst (Misses k) e m)
