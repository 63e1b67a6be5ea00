use Rattle.std.specs.Prelude.{ℕ, ◌≤◌, Bool, true, false, List, [], ◌∷◌, Option, Some, None, All}
use Rattle.resv_list.specs.declared.reservation.Reservation.{Reservation}
use Rattle.gateway_book.specs.declared.ask.Ask.{Ask}
use Rattle.gateway_book.specs.declared.refusal.Refusal.{Refusal}
use Rattle.gateway_book.specs.Answer.{Rules, refusal_of}
use Rattle.gateway_book.specs.Disjoint.{most_gap}
use Rattle.gateway_book.specs.Forgetting.{forgetful}
use Rattle.gateway_book.specs.Kept.{kept}
use Rattle.gateway_book.specs.Orderly.{IsOrderly}
use Rattle.gateway_book.specs.Step.{State, book_step, tick_step, terms_at, placed, reservation_of}

-- What gets into a journal of one gateway's transmissions over all lives of a server. A life begins with a book of what the journal
-- has, and may end at any moment: then nothing is left of it but the journal.

-- what is done with the book in a life: it is asked, and what it accepts gets into the journal or, where the life ends before or
-- the disk fails, doesn't; its floor rises
pub data Deed : Type 0 where
  Asks : Ask → Bool → Deed
  Ticks : ℕ → Deed

-- a life: what the book opens with, the floor that the journal tells, and what is done
pub record Life : Type 0 where
  pub rules : Rules
  pub floor : ℕ
  pub booked : ℕ
  pub deeds : List Deed

-- all that ever got into the journal, by start, and the book of a life
pub record Recorded : Type 0 where
  pub journal : List Reservation
  pub book : State

-- what is accepted gets into the journal, or doesn't
abbrev pub noted : Bool → Option Refusal → Ask → List Reservation → List Reservation
noted true None ask journal = placed (reservation_of ask) journal
noted true (Some refusal) ask journal = journal
noted false refusal ask journal = journal

-- the book answers, and forgets what its floor has put out of sight
abbrev pub after_deed : Rules → Deed → Recorded → Recorded
after_deed rules (Asks ask written) r =
    record {
      journal = noted written (refusal_of (terms_at rules r.book) r.book.list ask) ask r.journal;
      book = forgetful (book_step rules r.book ask);
    }
after_deed rules (Ticks now) r = record { journal = r.journal; book = forgetful (tick_step r.book now) }

abbrev pub after_deeds : Rules → List Deed → Recorded → Recorded
after_deeds rules [] r = r
after_deeds rules (d ∷ ds) r = after_deeds rules ds (after_deed rules d r)

-- a life opens with a book of what is kept of the journal
abbrev pub opened : Life → List Reservation → Recorded
opened life journal =
    record {
      journal = journal;
      book = record { floor = life.floor; list = kept journal life.floor; booked = life.booked; cancelled = 0 };
    }

-- the journal after a life, and after one life upon the other
abbrev pub after_life : Life → List Reservation → List Reservation
after_life life journal = (after_deeds life.rules life.deeds (opened life journal)).journal

abbrev pub after_lives : List Life → List Reservation → List Reservation
after_lives [] journal = journal
after_lives (life ∷ lives) journal = after_lives lives (after_life life journal)

-- a gap of a life is no less than this one
abbrev pub HasGap : ℕ → Life → Type 0
HasGap gap life = (gap ≤ life.rules.gap) × (life.rules.gap ≤ most_gap)

-- the law: over every list of lives, whatever each one is told and wherever it ends, all that ever got into the journal is what one
-- gateway may send: disjoint, with the gap between two of them, and no hour of a sub-band over its limit
abbrev pub EveryLifeKeepsDuty : Type 0
EveryLifeKeepsDuty =
    (gap : ℕ) (lives : List Life) → gap ≤ most_gap → All (HasGap gap) lives → IsOrderly gap (after_lives lives [])
