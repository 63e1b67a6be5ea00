use Rattle.std.specs.Prelude.{ℕ, ◌≡◌, ◌≢◌, ◌+◌, ◌≤◌, List, [], ◌∷◌, ◌++◌, All, map}
use Rattle.std.proofs.Common.{refl, ap, arith}
use Rattle.std.proofs.lemmas.Bool.{lt-ltb}
use Rattle.std.proofs.lemmas.List.Elements.{All-cons}
use Rattle.resv_list.specs.Sorted.{RisesFrom, place_by}

-- A sorted list that is filled from its beginning: each next member belongs at the end.

module _ {X : Type 0} (key : X → ℕ) where
  least_next : (low : ℕ) (xs : List X) (x : X) (rest : List X) → RisesFrom key low (xs ++ (x ∷ rest)) → low ≤ key x
  least_next low [] x rest r = r.0
  least_next low (z ∷ zs) x rest r = omega (arith, r.0, least_next (key z + 1) zs x rest r.1)

  -- placed behind those before it, the next member comes last
  pub placed_last : (low : ℕ) (xs : List X) (x : X) (rest : List X) → RisesFrom key low (xs ++ (x ∷ rest))
      → place_by key x xs ≡ xs ++ (x ∷ [])
  placed_last low [] x rest r = refl
  placed_last low (z ∷ zs) x rest r =
      let h = least_next (key z + 1) zs x rest r.1 in
      rw (lt-ltb (key z) (key x) (omega (arith, h))) (ap (λ (q : List X). z ∷ q) (placed_last (key z + 1) zs x rest r.1))

  -- none of those before it has its key
  pub next_is_new : (low : ℕ) (xs : List X) (x : X) (rest : List X) → RisesFrom key low (xs ++ (x ∷ rest))
      → All (λ k. k ≢ key x) (map key xs)
  next_is_new low [] x rest r = λ i d l. absurd (omega arith)
  next_is_new low (z ∷ zs) x rest r =
      let h = least_next (key z + 1) zs x rest r.1 in
      All-cons (λ k. k ≢ key x) (key z) (map key zs) (omega (arith, h)) (next_is_new (key z + 1) zs x rest r.1)
