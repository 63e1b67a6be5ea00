-- Lemmas on the lists of a closing.
use Rattle.std.proofs.Common.{◌≡◌, ℕ, List, [], ◌∷◌, map, refl, sym, ap, subst, ◌∙◌}
use Rattle.std.specs.Prelude.{All}
use Rattle.std.specs.List.Sorted.{IsStrictlyIncreasing}
use Rattle.std.proofs.lemmas.List.Elements.{All-map}
use Rattle.std.proofs.lemmas.Simd.{map-map}
use Rattle.gateway_book.specs.declared.totals.Totals.{Totals}
use Rattle.gateway_book.specs.Book.{Book, totals_of}
use Rattle.answer_ticket.specs.declared.tried.Receipt.{Receipt}
use Rattle.server_desk.specs.Desk.{DeskView, total_of}
use Rattle.air_ledger.specs.Tills.{Holding}
use Rattle.book_audit.specs.declared.cause.FinishCause.{FinishCause}
use Rattle.book_audit.specs.declared.cause.FinishCause.TheVariants.{TillMissing, Apart, Doubled, Lost, NoMemory}
use Rattle.book_audit.specs.Audit.{booked_by, books_of, HasWholeSum, IsCauseOf, Shelved, airtime_at, kept_numbers, EachStandsOnce}
use Rattle.book_audit.specs.Audit.{IsAccountedFor}
use Rattle.server_station.specs.Closings.{shelved, with_totals, IsFinishCause}
use Rattle.server_station.proofs.Rising.{rising-differ}

pub ids_closed : (shelf : List Shelved) (totals : List (ℕ × Totals)) → totals ≡ map with_totals shelf
    → map (λ (t : ℕ × Totals). t.0) totals ≡ map (λ (s : Shelved). s.0) shelf
ids_closed shelf totals e = ap (map (λ (t : ℕ × Totals). t.0)) e ∙ map-map (λ (t : ℕ × Totals). t.0) with_totals shelf

pub totals_closed : (shelf : List Shelved) (totals : List (ℕ × Totals)) (books : List Book) → totals ≡ map with_totals shelf
    → books ≡ map (λ (s : Shelved). s.1) shelf → map (λ (t : ℕ × Totals). t.1) totals ≡ map totals_of books
totals_closed shelf totals books e f =
    ap (map (λ (t : ℕ × Totals). t.1)) e
    ∙ map-map (λ (t : ℕ × Totals). t.1) with_totals shelf
    ∙ sym (ap (map totals_of) f ∙ map-map totals_of (λ (s : Shelved). s.1) shelf)

pub equal_closed : (desk seen : DeskView) (shelf compared : List Shelved) (totals : List (ℕ × Totals)) → desk ≡ seen
    → compared ≡ shelf → totals ≡ map with_totals shelf → All (λ (s : Shelved). s.1.booked ≡ airtime_at seen s.0) compared
    → All (λ (t : ℕ × Totals). t.1.booked ≡ airtime_at desk t.0) totals
equal_closed desk seen shelf compared totals d c e equal =
    let on_shelf : All (λ (s : Shelved). s.1.booked ≡ airtime_at desk s.0) shelf =
    subst (λ l. All (λ (s : Shelved). s.1.booked ≡ airtime_at desk s.0) l) c
    (subst (λ k. All (λ (s : Shelved). s.1.booked ≡ airtime_at k s.0) compared) (sym d) equal) in
    subst (All (λ (t : ℕ × Totals). t.1.booked ≡ airtime_at desk t.0)) (sym e)
    (All-map (λ (t : ℕ × Totals). t.1.booked ≡ airtime_at desk t.0) with_totals shelf on_shelf)

pub once_closed : (shelf compared : List Shelved) (books : List Book) → compared ≡ shelf
    → books ≡ map (λ (s : Shelved). s.1) shelf → EachStandsOnce (kept_numbers (map (λ (s : Shelved). s.1) compared))
    → EachStandsOnce (kept_numbers books)
once_closed shelf compared books c f once =
    subst (λ l. EachStandsOnce (kept_numbers l)) (ap (map (λ (s : Shelved). s.1)) c ∙ sym f) once

shelved_counted : (shelf : List Shelved) → shelved (map with_totals shelf) (map (λ (s : Shelved). s.1) shelf) ≡ shelf
shelved_counted [] = refl
shelved_counted (s ∷ shelf) = ap (λ l. s ∷ l) (shelved_counted shelf)

pub accounted_closed : {A : Type 0} (shelf compared : List Shelved) (totals : List (ℕ × Totals)) (books : List Book)
    (receipts : List (Receipt A)) → compared ≡ shelf → totals ≡ map with_totals shelf → books ≡ map (λ (s : Shelved). s.1) shelf
    → All (IsAccountedFor compared) receipts → All (IsAccountedFor (shelved totals books)) receipts
accounted_closed shelf compared totals books receipts c e f accounted =
    let same : compared ≡ shelved totals books =
    c ∙ sym (ap (λ t. shelved t books) e ∙ ap (shelved (map with_totals shelf)) f ∙ shelved_counted shelf) in
    subst (λ l. All (IsAccountedFor l) receipts) same accounted

-- the books together have booked what the closing has
pub sum_closed : (desk : DeskView) (shelf compared : List Shelved) (books : List Book) (booked : ℕ) → compared ≡ shelf
    → books ≡ map (λ (s : Shelved). s.1) shelf → booked ≡ total_of desk
    → IsStrictlyIncreasing (map (λ (s : Shelved). s.0) shelf) → HasWholeSum desk compared → booked_by books ≡ booked
sum_closed desk shelf compared books booked c f e rising sum =
    let differ = rising-differ (map (λ (s : Shelved). s.0) shelf) rising in
    let whole : booked_by (books_of shelf) ≡ total_of desk = subst (HasWholeSum desk) c sum differ in
    ap booked_by f ∙ whole ∙ sym e

-- what was told of the books before they were put back
pub cause_handed : {A : Type 0} (ids : List ℕ) (tills : List Holding) (receipts : List (Receipt A)) (desk : DeskView)
    (shelf compared : List Shelved) → compared ≡ shelf → map (λ (s : Shelved). s.0) shelf ≡ ids → (cause : FinishCause)
    → IsCauseOf desk compared receipts cause → IsFinishCause tills ids receipts cause
cause_handed ids tills receipts desk shelf compared c e TillMissing h = absurd h
cause_handed ids tills receipts desk shelf compared c e (Apart gateway booked answered) h =
    (desk, compared, ap (map (λ (s : Shelved). s.0)) c ∙ e, h)
cause_handed ids tills receipts desk shelf compared c e (Doubled number gateway other) h =
    (desk, compared, ap (map (λ (s : Shelved). s.0)) c ∙ e, h)
cause_handed ids tills receipts desk shelf compared c e (Lost number) h =
    (desk, compared, ap (map (λ (s : Shelved). s.0)) c ∙ e, h)
cause_handed ids tills receipts desk shelf compared c e NoMemory h = tt
