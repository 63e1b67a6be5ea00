use Rattle.std.specs.Prelude.{ℕ, ◌≡◌, ◌≢◌, List, map, All, ⊤}
use Rattle.std.specs.List.{zip}
use Rattle.gateway_book.specs.declared.totals.Totals.{Totals}
use Rattle.gateway_book.specs.Book.{Book, totals_of}
use Rattle.answer_ticket.specs.declared.tried.Receipt.{Receipt}
use Rattle.server_desk.specs.Desk.{DeskView, total_of}
use Rattle.air_ledger.specs.Tills.{Holding, all_parts, parts_of, amount_of}
use Rattle.book_audit.specs.Audit.{Shelved, IsCauseOf, IsAccountedFor, EachStandsOnce, airtime_at, booked_by, kept_numbers}
use Rattle.book_audit.specs.declared.cause.FinishCause.{FinishCause}
use Rattle.book_audit.specs.declared.cause.FinishCause.TheVariants.{TillMissing, Apart, Doubled, Lost, NoMemory}

-- What `finish` gives of a station's books, after this project's profile.

-- what the book has counted beside the number
abbrev pub with_totals : Shelved → ℕ × Totals
with_totals s = (s.0, totals_of s.1)

-- the books of a closing beside their gateways' numbers
abbrev pub shelved : List (ℕ × Totals) → List Book → List Shelved
shelved totals books = zip (map (λ (t : ℕ × Totals). t.0) totals) books

-- a desk, and books of the gateways with these numbers, of which this is the cause
abbrev pub IsCauseAt : {A : Type 0} → List ℕ → List (Receipt A) → FinishCause → Type 0
IsCauseAt ids receipts cause =
    (desk : DeskView) × (shelf : List Shelved) × (map (λ (s : Shelved). s.0) shelf ≡ ids) × IsCauseOf desk shelf receipts cause

-- why a station of these gateways isn't finished: its books are behind their locks again, so that the cause is told of some
-- books of these gateways
abbrev pub IsFinishCause : {A : Type 0} → List Holding → List ℕ → List (Receipt A) → FinishCause → Type 0
IsFinishCause tills ids receipts TillMissing = parts_of tills ≢ all_parts
IsFinishCause tills ids receipts (Apart gateway booked answered) = IsCauseAt ids receipts (Apart gateway booked answered)
IsFinishCause tills ids receipts (Doubled number gateway other) = IsCauseAt ids receipts (Doubled number gateway other)
IsFinishCause tills ids receipts (Lost number) = IsCauseAt ids receipts (Lost number)
IsFinishCause tills ids receipts NoMemory = ⊤

-- these tills have all parts; what was booked at a station of these gateways is their amount, what its desk has answered, and what
-- all books have booked together; the totals are those of the gateways and of their books; each gateway has booked what the desk
-- has answered there, no number is kept twice, and each receipt is accounted for
pub record IsClosed {A : Type 0} (ids : List ℕ) (tills : List Holding) (receipts : List (Receipt A)) (amount : ℕ) (desk : DeskView)
    (counts : List (ℕ × Totals)) (books : List Book) : Type 0 where
  pub all_in : parts_of tills ≡ all_parts
  pub booked : amount ≡ amount_of tills
  pub answered : amount ≡ total_of desk
  pub sum : booked_by books ≡ amount
  pub gateways : map (λ (t : ℕ × Totals). t.0) counts ≡ ids
  pub totals : map (λ (t : ℕ × Totals). t.1) counts ≡ map totals_of books
  pub equal : All (λ (t : ℕ × Totals). t.1.booked ≡ airtime_at desk t.0) counts
  pub once : EachStandsOnce (kept_numbers books)
  pub accounted : All (IsAccountedFor (shelved counts books)) receipts

-- a station of these gateways and these tills were handed back, for this cause
pub record IsHandedBack {A : Type 0} (ids : List ℕ) (given : List Holding) (receipts : List (Receipt A)) (back : List ℕ)
    (handed : List Holding) (why : FinishCause) : Type 0 where
  pub cause : IsFinishCause given ids receipts why
  pub station : back ≡ ids
  pub tills : handed ≡ given
