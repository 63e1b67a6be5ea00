use Rattle.std.specs.Prelude.{ℕ, ◌≡◌, ◌<◌, Bool, true, false, List, length, get_or, map, AllPairs, Contains}
use Rattle.answer_ticket.specs.declared.tried.Receipt.{Receipt}
use Rattle.book_audit.specs.Audit.{times_of, EachStandsOnce}
use Rattle.book_audit.specs.Held.{Kept}

-- The receipts whose reservations books keep, by a mark for each receipt.

-- the numbers of their reservations rise
abbrev pub DoRise : {A : Type 0} → List (Receipt A) → Type 0
DoRise receipts = AllPairs (λ r s. r.reservation.number < s.reservation.number) receipts

-- what a receipt tells that a book keeps, beside the gateway's number
abbrev pub told_by : {A : Type 0} → Receipt A → Kept
told_by receipt = (receipt.gateway, receipt.reservation)

-- no number is held twice; what a marked receipt tells is held, and what is held was told by a marked receipt
pub record AreMarked {A : Type 0} (receipts : List (Receipt A)) (held : List Kept) (marks : List Bool) : Type 0 where
  pub each : length marks ≡ length receipts
  pub once : EachStandsOnce (map (λ (h : Kept). h.1.number) held)
  pub kept : (i : ℕ) → i < length receipts → get_or marks i false ≡ true → (d : Receipt A)
      → Contains held (told_by (get_or receipts i d))
  pub told : (n : ℕ) → 0 < times_of n (map (λ (h : Kept). h.1.number) held) → (i : ℕ) × (i < length receipts)
      × (get_or marks i false ≡ true) × ((d : Receipt A) → (get_or receipts i d).reservation.number ≡ n)
