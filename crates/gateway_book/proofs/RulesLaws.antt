use Rattle.std.specs.Prelude.{ℕ, ◌≡◌, ◌<◌, ◌≤◌, ◌↔◌, List, [], ◌∷◌}
use Rattle.std.proofs.Common.{subst, arith}
use Rattle.gateway_book.specs.Spaced.{SpacedFrom}

-- A walk that asks whether the members of a list are spaced, from one to the next.

module _ {X : Type 0} (key end : X → ℕ) (whole : Type 0) where
  abbrev Owes : ℕ → List X → Type 0
  Owes low left = whole ↔ SpacedFrom key end low left

  -- a member that begins late enough leaves it to those behind it
  pub owes_behind : (low : ℕ) (x : X) (xs left : List X) → left ≡ x ∷ xs → whole ↔ SpacedFrom key end low left
      → low ≤ key x → whole ↔ SpacedFrom key end (end x) xs
  owes_behind low x xs left e owes h =
      let o = subst (Owes low) e owes in
      (λ w. (o.0 w).1, λ s. o.1 (h, s))

  -- one that begins too early settles it
  pub owes_early : (low : ℕ) (x : X) (xs left : List X) → left ≡ x ∷ xs → whole ↔ SpacedFrom key end low left
      → key x < low → whole → key x < key x
  owes_early low x xs left e owes h w =
      let o = subst (Owes low) e owes in
      omega (arith, (o.0 w).0)

  -- and where none is left, they are
  pub owes_none : (low : ℕ) (left : List X) → left ≡ [] → whole ↔ SpacedFrom key end low left → whole
  owes_none low left e owes =
      let o = subst (Owes low) e owes in
      o.1 tt
