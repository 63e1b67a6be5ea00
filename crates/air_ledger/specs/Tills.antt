use Rattle.std.specs.Prelude.{ℕ, ◌+◌, ◌<◌, ◌⊎◌, ◌≡◌, List, [], ◌∷◌}
use Rattle.air_ledger.specs.declared.opening.TheConstants.{PARTS}

-- Parts of a ledger of airtime, after this project's profile.

-- what callers see of a till: how many of the ledger's parts it has, and the airtime that was counted with them, in µs
pub record Holding : Type 0 where
  pub parts : ℕ
  pub amount : ℕ

-- two holdings together
abbrev pub together : Holding → Holding → Holding
together a b = record { parts = a.parts + b.parts; amount = a.amount + b.amount }

-- all parts of some holdings
abbrev pub parts_of : List Holding → ℕ
parts_of [] = 0
parts_of (h ∷ more) = h.parts + parts_of more

-- all airtime of them
abbrev pub amount_of : List Holding → ℕ
amount_of [] = 0
amount_of (h ∷ more) = h.amount + amount_of more

-- all of them as one
abbrev pub gathered : List Holding → Holding
gathered l = record { parts = parts_of l; amount = amount_of l }

-- how many parts a station's ledger has
abbrev pub all_parts : ℕ
all_parts = PARTS

-- there is nothing to gather, or more than all parts
abbrev pub IsOver : List Holding → Type 0
IsOver l = (l ≡ []) ⊎ (all_parts < parts_of l)
