use Rattle.std.specs.Prelude.{ℕ, ◌≡◌, List, [], ◌∷◌, ◌++◌, Result, Err, MatchOption, IsOkAnd, ⊤}
use Rattle.resv_list.specs.declared.reservation.Reservation.{Reservation}
use Rattle.gateway_book.specs.declared.ask.Ask.{Ask}
use Rattle.gateway_book.specs.declared.refusal.Refusal.{Refusal}
use Rattle.gateway_book.specs.Answer.{Rules, IsAsked, refusal_of}
use Rattle.gateway_book.specs.Step.{State, terms_at, book_step}
use Rattle.gateway_book.specs.Book.{Book, state_of}

-- What a gateway would answer to some asks, each accepted ask staying for the next.

-- what an ask is answered with
abbrev pub Answer : Type 0
Answer = Result Reservation Refusal

-- what the first ask meets: this list, at this floor, with so much airtime booked
abbrev pub opened_at : ℕ → ℕ → List Reservation → State
opened_at floor booked l = record { floor = floor; list = l; booked = booked; cancelled = 0 }

-- the answer where there is memory: the first refusal that holds, or else the reservation with the asked fields
abbrev pub IsAnswer : Rules → State → Ask → Answer → Type 0
IsAnswer rules s ask answer =
    MatchOption (refusal_of (terms_at rules s) s.list ask) (IsOkAnd answer (IsAsked ask)) (λ refusal. answer ≡ Err refusal)

-- as many answers as asks: an ask that is accepted joins the list and adds to what is booked before the next is looked at
abbrev pub AreAnswers : Rules → State → List Ask → List Answer → Type 0
AreAnswers rules s [] [] = ⊤
AreAnswers rules s [] (answer ∷ answers) = ⊥
AreAnswers rules s (ask ∷ asks) [] = ⊥
AreAnswers rules s (ask ∷ asks) (answer ∷ answers) =
    IsAnswer rules s ask answer × AreAnswers rules (book_step rules s ask) asks answers

-- the answers stand behind what was there before
pub record AddsAnswers (rules : Rules) (s : State) (asks : List Ask) (before after : List Answer) : Type 0 where
  pub answers : List Answer
  pub added : after ≡ before ++ answers
  pub right : AreAnswers rules s asks answers

-- something stands behind what was there before
pub record AddsSome (before after : List Answer) : Type 0 where
  pub more : List Answer
  pub added : after ≡ before ++ more

-- the answers are what the live book gives to the same asks, whatever it has cancelled
abbrev pub LiveBookAnswersAlike : Type 0
LiveBookAnswersAlike =
    (b : Book) (asks : List Ask) (answers : List Answer) → AreAnswers b.rules (opened_at b.floor b.booked b.list) asks answers
    → AreAnswers b.rules (state_of b) asks answers
