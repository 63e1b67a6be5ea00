use Rattle.std.specs.Prelude.{ℕ, ◌≡◌, refl, ◌+◌, List, [], ◌∷◌, Option, Some, None}
use Rattle.resv_list.specs.declared.reservation.Reservation.{Reservation}
use Rattle.gateway_book.specs.declared.ask.Ask.{Ask}
use Rattle.gateway_book.specs.declared.refusal.Refusal.{Refusal}
use Rattle.gateway_book.specs.Answer.{Rules, ask_airtime, refusal_of}
use Rattle.gateway_book.specs.Step.{State, after_answer, placed, reservation_of}
use Rattle.airtime_planner.specs.WhatIf.{Answer, AreAnswers}
use Rattle.airtime_planner.specs.EarliestAfter.{earliest_after}

-- What was cancelled changes no answer.

abbrev state_with : ℕ → ℕ → ℕ → List Reservation → State
state_with floor cancelled booked l = record { floor = floor; list = l; booked = booked; cancelled = cancelled }

-- answers to these asks after one total of what was cancelled are answers after another
abbrev AreAlike : Rules → ℕ → ℕ → ℕ → List Ask → List Answer → Type 0
AreAlike rules floor c d asks answers =
    (booked : ℕ) (l : List Reservation) → AreAnswers rules (state_with floor c booked l) asks answers
    → AreAnswers rules (state_with floor d booked l) asks answers

after_one : (rules : Rules) (floor c d booked : ℕ) (l : List Reservation) (ask : Ask) (asks : List Ask) (answers : List Answer)
    (o : Option Refusal) → AreAlike rules floor c d asks answers
    → AreAnswers rules (after_answer o (state_with floor c booked l) ask) asks answers
    → AreAnswers rules (after_answer o (state_with floor d booked l) ask) asks answers
after_one rules floor c d booked l ask asks answers None rest right =
    rest (booked + ask_airtime ask) (placed (reservation_of ask) l) right
after_one rules floor c d booked l ask asks answers (Some refusal) rest right = rest booked l right

pub alike : (rules : Rules) (floor c d booked : ℕ) (l : List Reservation) (asks : List Ask) (answers : List Answer)
    → AreAnswers rules (state_with floor c booked l) asks answers → AreAnswers rules (state_with floor d booked l) asks answers
alike rules floor c d booked l [] [] right = tt
alike rules floor c d booked l [] (answer ∷ answers) right = absurd right
alike rules floor c d booked l (ask ∷ asks) [] right = absurd right
alike rules floor c d booked l (ask ∷ asks) (answer ∷ answers) right =
    let o = refusal_of (record { floor = floor; rules = rules; booked = booked }) l ask in (
      right.0,
      after_one rules floor c d booked l ask asks answers o
          (λ more m. alike rules floor c d more m asks answers) right.1,
    )

-- nor the earliest start after asks
module _ (rules : Rules) (floor c d : ℕ) (ask : Ask) (a z : ℕ) where
  -- the same of two totals of what was cancelled
  abbrev StartAlike : List Ask → Type 0
  StartAlike asks =
      (booked : ℕ) (l : List Reservation) → earliest_after rules (state_with floor c booked l) asks ask a z
      ≡ earliest_after rules (state_with floor d booked l) asks ask a z

  starts_after : (booked : ℕ) (l : List Reservation) (first : Ask) (asks : List Ask) (o : Option Refusal) → StartAlike asks
      → earliest_after rules (after_answer o (state_with floor c booked l) first) asks ask a z
      ≡ earliest_after rules (after_answer o (state_with floor d booked l) first) asks ask a z
  starts_after booked l first asks None rest = rest (booked + ask_airtime first) (placed (reservation_of first) l)
  starts_after booked l first asks (Some refusal) rest = rest booked l

  pub starts_alike : (booked : ℕ) (l : List Reservation) (asks : List Ask)
      → earliest_after rules (state_with floor c booked l) asks ask a z
      ≡ earliest_after rules (state_with floor d booked l) asks ask a z
  starts_alike booked l [] = refl
  starts_alike booked l (first ∷ asks) =
      starts_after booked l first asks (refusal_of (record { floor = floor; rules = rules; booked = booked }) l first)
      (λ more m. starts_alike more m asks)
