-- What is answered to asks that are tried, at a worked list with a member, and what the laws say there of a live book that has
-- cancelled one and retired another: each tells a fact, so that none is empty. Then what they say of every book.
use Rattle.std.proofs.Common.{ℕ, ◌≡◌, List, [], ◌∷◌, ◌++◌, Option, Some, None, Ok, Err, MatchOption, IsOkAnd, refl, sym, ap, ◌∙◌}
use Rattle.std.proofs.Common.{subst}
use Rattle.resv_list.specs.declared.reservation.Reservation.{Reservation}
use Rattle.resv_list.specs.Reservations.{begun}
use Rattle.gateway_book.specs.declared.ask.Ask.{Ask}
use Rattle.gateway_book.specs.declared.refusal.Refusal.{Refusal}
use Rattle.gateway_book.specs.declared.refusal.Refusal.TheVariants.{Taken}
use Rattle.gateway_book.specs.Answer.{Rules, IsAsked, overlap, refusal_of}
use Rattle.gateway_book.specs.Book.{Book, state_of}
use Rattle.gateway_book.specs.Duty.{full_hour}
use Rattle.gateway_book.specs.EarliestValue.{earliest_of}
use Rattle.gateway_book.specs.Kept.{kept}
use Rattle.gateway_book.specs.Band.{band_of}
use Rattle.gateway_book.specs.Step.{State, book_step, reservation_of, placed}
use Rattle.gateway_book.specs.TimeOnAir.{airtime_of}
use Rattle.gateway_book.proofs.WorkedRefusals.{fast_at}
use Rattle.airtime_planner.specs.EarliestAfter.{LiveBookStartsAlike, after_asks, earliest_after}
use Rattle.airtime_planner.specs.WhatIf.{Answer, IsAnswer, AreAnswers, AddsAnswers, AddsSome, LiveBookAnswersAlike, opened_at}

abbrev rules : Rules
rules = record { cap = 4; gap = 1000 }

-- each of 12 bytes at DR5 on a channel of sub-band M: 41,216 us
abbrev one_kept : List Reservation
one_kept = placed (reservation_of (fast_at 3710000000)) []

-- it has booked three, cancelled one of them and retired another
abbrev live : Book
live = record {
  id = 1;
  rules = rules;
  floor = 3700000007;
  list = one_kept;
  booked = 123648;
  cancelled = 41216;
  retired = 41216;
}

abbrev copy : State
copy = opened_at 3700000007 123648 one_kept

-- One ask.

pub refused_is_told : (answer : Answer) → IsAnswer rules copy (fast_at 3710042215) answer → answer ≡ Err (Taken 3710000000)
unfolding airtime_of band_of begun kept overlap full_hour
refused_is_told answer h = h

pub accepted_is_told : (r : Reservation) → IsAnswer rules copy (fast_at 3710042216) (Ok r)
    → (r.number ≡ 1) × (r.start ≡ 3710042216) × (r.freq_hz ≡ 868100000) × (r.rate ≡ (fast_at 3710042216).rate) × (r.len ≡ 12)
unfolding airtime_of band_of begun kept overlap full_hour
accepted_is_told r h = (h.number, h.start, h.freq_hz, h.rate, h.len)

pub accepted_is_not_refused : (refusal : Refusal) → IsAnswer rules copy (fast_at 3710042216) (Err refusal) → ⊥
unfolding airtime_of band_of begun kept overlap full_hour
accepted_is_not_refused refusal h = h

-- Some asks, one after another.

pub accepted_stays : (first second : Answer)
    → AreAnswers rules copy (fast_at 3710042216 ∷ fast_at 3710042216 ∷ []) (first ∷ second ∷ [])
    → second ≡ Err (Taken 3710042216)
unfolding airtime_of band_of begun kept overlap full_hour
accepted_stays first second h = h.1.0

pub none_is_left_out : AreAnswers rules copy (fast_at 3710042216 ∷ []) [] → ⊥
none_is_left_out h = h

pub none_is_added : (answer : Answer) → AreAnswers rules copy [] (answer ∷ []) → ⊥
none_is_added answer h = h

only : (answers : List Answer) → AreAnswers rules copy (fast_at 3710042215 ∷ []) answers → answers ≡ Err (Taken 3710000000) ∷ []
only [] h = absurd h
only (answer ∷ []) h = ap (λ (a : Answer). a ∷ []) (refused_is_told answer h.0)
only (answer ∷ other ∷ answers) h = absurd h.1

-- what is told stands behind what was there
pub answer_is_behind : (before after : List Answer) → AddsAnswers rules copy (fast_at 3710042215 ∷ []) before after
    → after ≡ before ++ Err (Taken 3710000000) ∷ []
answer_is_behind before after adds =
    adds.added ∙ ap (λ (answers : List Answer). before ++ answers) (only adds.answers adds.right)

-- The laws at the live book: whatever is asked.

pub answers_of_a_live_book : LiveBookAnswersAlike → (asks : List Ask) (answers : List Answer) → AreAnswers rules copy asks answers
    → AreAnswers rules (state_of live) asks answers
answers_of_a_live_book law = law live

pub second_alike : LiveBookAnswersAlike → (one other : Ask) (first second : Answer)
    → AreAnswers rules copy (one ∷ other ∷ []) (first ∷ second ∷ [])
    → IsAnswer rules (book_step rules (state_of live) one) other second
second_alike law one other first second h = (law live (one ∷ other ∷ []) (first ∷ second ∷ []) h).1.0

pub starts_of_a_live_book : LiveBookStartsAlike → (asks : List Ask) (ask : Ask) (a z : ℕ)
    → earliest_after rules (state_of live) asks ask a z ≡ earliest_after rules copy asks ask a z
starts_of_a_live_book law asks ask a z = sym (law live asks ask a z)

-- after one more the next may begin behind it
pub start_behind_both : LiveBookStartsAlike
    → earliest_after rules (state_of live) (fast_at 3710042216 ∷ []) (fast_at 0) 3710084431 3710084433 ≡ Some 3710084432
unfolding earliest_of airtime_of band_of begun kept overlap full_hour
start_behind_both law = starts_of_a_live_book law (fast_at 3710042216 ∷ []) (fast_at 0) 3710084431 3710084433

-- Of every book, whatever it has booked, cancelled and retired.

module _ (rules : Rules) (s : State) where
  abbrev refused_at : Ask → Option Refusal
  refused_at ask = refusal_of (record { floor = s.floor; rules = rules; booked = s.booked }) s.list ask

  module _ (ask : Ask) (answer : Answer) (right : IsAnswer rules s ask answer) where
    abbrev answer_by : Option Refusal → Type 0
    answer_by o = MatchOption o (IsOkAnd answer (IsAsked ask)) (λ refusal. answer ≡ Err refusal)

    pub each_refused_is_told : (refusal : Refusal) → refused_at ask ≡ Some refusal → answer ≡ Err refusal
    each_refused_is_told refusal e = subst answer_by e right

    pub each_accepted_is_told : refused_at ask ≡ None → IsOkAnd answer (IsAsked ask)
    each_accepted_is_told e = subst answer_by e right

  pub each_accepted_stays : (ask : Ask) (answer : Answer) (asks : List Ask) (answers : List Answer)
      → AreAnswers rules s (ask ∷ asks) (answer ∷ answers)
      → IsAnswer rules s ask answer × AreAnswers rules (book_step rules s ask) asks answers
  each_accepted_stays ask answer asks answers h = h

  pub each_ask_is_followed : (ask : Ask) (asks : List Ask) →
      after_asks rules s (ask ∷ asks) ≡ after_asks rules (book_step rules s ask) asks
  each_ask_is_followed ask asks = refl

  pub each_start_is_there : (ask : Ask) (a z : ℕ) →
      earliest_after rules s [] ask a z
      ≡ earliest_of (record { floor = s.floor; rules = rules; booked = s.booked }) s.list ask a z
  each_start_is_there ask a z = refl

-- the answers stand behind what was there, and each is right; without memory some stand there
pub each_answer_is_behind : (rules : Rules) (s : State) (asks : List Ask) (before after : List Answer)
    → AddsAnswers rules s asks before after
    → (answers : List Answer) × (after ≡ before ++ answers) × AreAnswers rules s asks answers
each_answer_is_behind rules s asks before after h = (h.answers, h.added, h.right)

pub each_of_some_is_behind : (before after : List Answer) → AddsSome before after
    → (more : List Answer) × (after ≡ before ++ more)
each_of_some_is_behind before after h = (h.more, h.added)

module _ (b : Book) (asks : List Ask) where
  -- what is kept, with what was booked; and with what was cancelled
  abbrev alone : State
  alone = record { floor = b.floor; list = b.list; booked = b.booked; cancelled = 0 }

  abbrev whole : State
  whole = record { floor = b.floor; list = b.list; booked = b.booked; cancelled = b.cancelled }

  pub each_book_answers_alike : LiveBookAnswersAlike → (answers : List Answer) → AreAnswers b.rules alone asks answers
      → AreAnswers b.rules whole asks answers
  each_book_answers_alike law answers = law b asks answers

  pub each_book_starts_alike : LiveBookStartsAlike → (ask : Ask) (a z : ℕ)
      → earliest_after b.rules alone asks ask a z ≡ earliest_after b.rules whole asks ask a z
  each_book_starts_alike law ask a z = law b asks ask a z
