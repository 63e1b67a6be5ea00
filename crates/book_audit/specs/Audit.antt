use Rattle.std.specs.Prelude.{ℕ, ◌≡◌, ◌≢◌, ◌+◌, ◌<◌, ◌≤◌, ◌==◌, ◌⊎◌, Bool, not, List, [], ◌∷◌, ◌++◌, map, filter, find, All}
use Rattle.std.specs.Prelude.{AllPairs, Some, unwrap_or, Contains, count_by}
use Rattle.std.specs.List.{flat_map, list_any}
use Rattle.std.specs.List.Sorted.{IsPermutation}
use Rattle.radio_bands.specs.Band.{hour}
use Rattle.resv_list.specs.declared.reservation.Reservation.{Reservation}
use Rattle.gateway_book.specs.Book.{Book}
use Rattle.answer_ticket.specs.declared.tried.Receipt.{Receipt}
use Rattle.server_desk.specs.Airtime.{answered_for}
use Rattle.server_desk.specs.Desk.{DeskView, total_of}
use Rattle.book_audit.specs.declared.cause.FinishCause.{FinishCause}
use Rattle.book_audit.specs.declared.cause.FinishCause.TheVariants.{TillMissing, Apart, Doubled, Lost, NoMemory}

-- What is asked of books at the end, after this project's profile.

-- a gateway's number beside its book
abbrev pub Shelved : Type 0
Shelved = ℕ × Book

-- the books without their gateways' numbers
abbrev pub books_of : List Shelved → List Book
books_of shelf = map (λ (s : Shelved). s.1) shelf

-- the airtime of a gateway's settled answers, as the desk knows it; a gateway that it doesn't know has none
abbrev pub airtime_at : DeskView → ℕ → ℕ
airtime_at desk gateway = unwrap_or (answered_for desk.ids desk.known gateway) 0

-- what all these books have booked
abbrev pub booked_by : List Book → ℕ
booked_by [] = 0
booked_by (b ∷ books) = b.booked + booked_by books

-- a gateway's number, what its book has booked, and the airtime of its settled answers
abbrev pub Amounts : Type 0
Amounts = ℕ × (ℕ × ℕ)

-- the two amounts differ
abbrev pub are_apart : Amounts → Bool
are_apart amounts = not (amounts.1.0 == amounts.1.1)

-- whether the gateway with this number has a book here
abbrev pub has_book : List Shelved → ℕ → Bool
has_book shelf gateway = list_any (λ (s : Shelved). s.0 == gateway) shelf

-- what is compared: the amounts of each book, in the order of the books, and behind them those of each gateway of the desk
-- that has no book here, which has booked nothing
abbrev pub of_books : DeskView → List Shelved → List Amounts
of_books desk shelf = map (λ (s : Shelved). (s.0, (s.1.booked, airtime_at desk s.0))) shelf

-- the amounts of gateways that have no book here
abbrev pub of_others : DeskView → List ℕ → List Amounts
of_others desk ids = map (λ id. (id, (0, airtime_at desk id))) ids

-- the amounts of all books, and then of the gateways that have none
abbrev pub all_amounts : DeskView → List Shelved → List Amounts
all_amounts desk shelf = of_books desk shelf ++ of_others desk (filter (λ id. not (has_book shelf id)) desk.ids)

-- each gateway has booked what its settled answers are on air for
abbrev pub AreTogether : DeskView → List Shelved → Type 0
AreTogether desk shelf = All (λ (a : Amounts). a.1.0 ≡ a.1.1) (all_amounts desk shelf)

-- the books of different gateways have booked what all settled answers are on air for
abbrev pub HasWholeSum : DeskView → List Shelved → Type 0
HasWholeSum desk shelf =
    AllPairs (λ a b. a ≢ b) (map (λ (s : Shelved). s.0) shelf) → booked_by (books_of shelf) ≡ total_of desk

-- what the books keep, one after another, beside their gateways' numbers
abbrev pub held_by : List Shelved → List (ℕ × Reservation)
held_by shelf = flat_map (λ (s : Shelved). map (λ (r : Reservation). (s.0, r)) s.1.list) shelf

-- the numbers in all kept lists, one after another
abbrev pub kept_numbers : List Book → List ℕ
kept_numbers books = flat_map (λ (b : Book). map (λ (r : Reservation). r.number) b.list) books

-- how often a number stands among these
abbrev pub times_of : ℕ → List ℕ → ℕ
times_of n numbers = count_by (λ m. m == n) numbers

-- no number stands twice among these
abbrev pub EachStandsOnce : List ℕ → Type 0
EachStandsOnce numbers = (n : ℕ) → times_of n numbers ≤ 1

-- two of what the books keep have this number, one with each of these gateways; and no smaller number stands twice
pub record IsDoubled (shelf : List Shelved) (number gateway other : ℕ) : Type 0 where
  pub one : Reservation
  pub two : Reservation
  pub others : List (ℕ × Reservation)
  pub kept : IsPermutation (held_by shelf) ((gateway, one) ∷ (other, two) ∷ others)
  pub first : one.number ≡ number
  pub second : two.number ≡ number
  pub least : (n : ℕ) → n < number → times_of n (kept_numbers (books_of shelf)) ≤ 1

-- a book keeps the reservation, or its floor is more than an hour past the start
abbrev pub IsKeptOrPast : Reservation → Book → Type 0
IsKeptOrPast r book = Contains book.list r ⊎ (r.start + hour < book.floor)

-- a book of the gateway with this number is such a book
abbrev pub HasBook : List Shelved → ℕ → (Book → Type 0) → Type 0
HasBook shelf gateway P = (s : Shelved) × Contains shelf s × (s.0 ≡ gateway) × P s.1

-- the book of the receipt's gateway keeps its reservation, or is past it
abbrev pub IsAccountedFor : {A : Type 0} → List Shelved → Receipt A → Type 0
IsAccountedFor shelf receipt = HasBook shelf receipt.gateway (IsKeptOrPast receipt.reservation)

-- the first of these receipts that isn't accounted for has this number
pub record IsLost {A : Type 0} (shelf : List Shelved) (receipts : List (Receipt A)) (number : ℕ) : Type 0 where
  pub before : List (Receipt A)
  pub lost : Receipt A
  pub after : List (Receipt A)
  pub lent : receipts ≡ before ++ lost ∷ after
  pub found : All (IsAccountedFor shelf) before
  pub gone : IsAccountedFor shelf lost → ⊥
  pub named : lost.number ≡ number

-- why a desk and its books can't be told to agree, with these receipts: the first cause, in the order of `FinishCause`; tills
-- are not looked at here
abbrev pub IsCauseOf : {A : Type 0} → DeskView → List Shelved → List (Receipt A) → FinishCause → Type 0
IsCauseOf desk shelf receipts TillMissing = ⊥
IsCauseOf desk shelf receipts (Apart gateway booked answered) =
    find are_apart (all_amounts desk shelf) ≡ Some (gateway, (booked, answered))
IsCauseOf desk shelf receipts (Doubled number gateway other) = AreTogether desk shelf × IsDoubled shelf number gateway other
IsCauseOf desk shelf receipts (Lost number) =
    AreTogether desk shelf × EachStandsOnce (kept_numbers (books_of shelf)) × IsLost shelf receipts number
IsCauseOf desk shelf receipts NoMemory = AreTogether desk shelf
