use Rattle.std.specs.Prelude.{ℕ, ◌≤◌, Bool, List, [], ◌∷◌, Option, Some, None, cond, ⊤}

-- Lists whose members begin at a key and last until their end, in the form that the code looks at:
-- neighbours are spaced.

-- what is there, where it passes the test
abbrev pub keep_if : {X : Type 0} → (X → Bool) → Option X → Option X
keep_if test None = None
keep_if test (Some x) = cond (test x) (Some x) None

module _ {X : Type 0} (key end : X → ℕ) where
  -- each member begins no earlier than the one before it ends, the first no earlier than `low`
  abbrev pub SpacedFrom : ℕ → List X → Type 0
  SpacedFrom low [] = ⊤
  SpacedFrom low (x ∷ xs) = (low ≤ key x) × SpacedFrom (end x) xs
