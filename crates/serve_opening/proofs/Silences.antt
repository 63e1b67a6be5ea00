use Rattle.std.proofs.Common.{◌≡◌, ℕ, ◌+◌, ◌<◌, ◌∷◌, List, [], cond, true, false, max, nat_lt, drop, get_or, length, All, ap, sym, ◌∙◌, arith}
use Rattle.std.proofs.lemmas.List.{drop_more}
use Rattle.std.proofs.lemmas.List.Elements.{All-nil, All-cons, All-head, All-tail, All-filter}
use Rattle.resv_list.specs.declared.reservation.Reservation.{Reservation}
use Rattle.resv_list.specs.Reservations.{by_start, place, end_of}
use Rattle.gateway_book.specs.Book.{Book}
use Rattle.gateway_book.specs.Kept.{kept, is_kept}
use Rattle.server_core.specs.Resumed.{HasNoNumbers}
use Rattle.serve_opening.specs.Silence.{late_by, silent_until, silenced}

-- A book that is silent till all that it holds has ended.

module _ (P : Reservation → Type 0) where
  All-place : (r : Reservation) (l : List Reservation) → P r → All P l → All P (place r l)
  All-place r [] p h = All-cons P r [] p h
  All-place r (s ∷ l) p h = elim (nat_lt s.start r.start) as (λ t. All P (cond t (s ∷ place r l) (r ∷ s ∷ l))) [
    | true ↦ All-cons P s (place r l) (All-head P s l h) (All-place r l p (All-tail P s l h))
    | false ↦ All-cons P r (s ∷ l) p h
  ]

  All-by_start : (l : List Reservation) → All P l → All P (by_start l)
  All-by_start [] h = All-nil P
  All-by_start (r ∷ l) h = All-place r (by_start l) (All-head P r l h) (All-by_start l (All-tail P r l h))

  -- what holds of all members holds of those that are kept
  pub All-kept : (l : List Reservation) (floor : ℕ) → All P l → All P (kept l floor)
  unfolding kept
  All-kept l floor h = All-by_start _ (All-filter (is_kept floor) P l h)

pub bare_silenced : (b : Book) → HasNoNumbers b → HasNoNumbers (silenced b)
bare_silenced b h = All-kept (λ r. r.number ≡ 0) b.list _ h

max_again : (a b c : ℕ) → max (max a b) c ≡ max a (max b c)
max_again a b c = omega arith

-- a walk over the members, one further
pub silent_next : (gap : ℕ) (l : List Reservation) (i : ℕ) (r : Reservation) (until : ℕ) → i < length l → get_or l i r ≡ r
    → max (max until (end_of r + gap + late_by)) (silent_until gap (drop (i + 1) l)) ≡ max until (silent_until gap (drop i l))
silent_next gap l i r until within there =
    max_again until (end_of r + gap + late_by) (silent_until gap (drop (i + 1) l))
    ∙ ap (λ m. max until (silent_until gap m)) (ap (λ x. x ∷ drop (i + 1) l) (sym there) ∙ sym (drop_more l i r within))
