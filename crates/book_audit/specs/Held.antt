use Rattle.std.specs.Prelude.{ℕ, ◌≡◌, ◌≢◌, ◌<◌, ◌≤◌, List, ◌∷◌, length, get_or, map, AllPairs}
use Rattle.std.specs.List.Sorted.{IsPermutation}
use Rattle.resv_list.specs.declared.reservation.Reservation.{Reservation}
use Rattle.book_audit.specs.Audit.{times_of}

-- What books keep, as one list in the order of the numbers.

-- a reservation that a book keeps, beside its gateway's number
abbrev pub Kept : Type 0
Kept = ℕ × Reservation

-- no two have one number
abbrev pub AllDiffer : List Kept → Type 0
AllDiffer held = AllPairs (λ (a b : Kept). a.1.number ≢ b.1.number) held

-- two of these have this number, one with each of these gateways; and no smaller number stands twice
pub record AreAlike (held : List Kept) (number gateway other : ℕ) : Type 0 where
  pub one : Reservation
  pub two : Reservation
  pub others : List Kept
  pub kept : IsPermutation held ((gateway, one) ∷ (other, two) ∷ others)
  pub first : one.number ≡ number
  pub second : two.number ≡ number
  pub least : (n : ℕ) → n < number → times_of n (map (λ (h : Kept). h.1.number) held) ≤ 1

-- this stands at a place of the list
abbrev pub StandsAt : List Kept → ℕ → Kept → Type 0
StandsAt held at x = (at < length held) × (get_or held at x ≡ x)
