use Rattle.std.specs.Prelude.{ℕ, ◌≡◌, List, [], ◌∷◌, Option}
use Rattle.gateway_book.specs.declared.ask.Ask.{Ask}
use Rattle.gateway_book.specs.Answer.{Rules}
use Rattle.gateway_book.specs.Step.{State, terms_at, book_step}
use Rattle.gateway_book.specs.Book.{Book, state_of}
use Rattle.gateway_book.specs.EarliestValue.{earliest_of}
use Rattle.airtime_planner.specs.WhatIf.{opened_at}

-- When a gateway would first accept one more ask, after some asks of which each accepted one stays.

-- what stands after the asks: each that is accepted joins the list and adds to what is booked
abbrev pub after_asks : Rules → State → List Ask → State
after_asks rules s [] = s
after_asks rules s (ask ∷ asks) = after_asks rules (book_step rules s ask) asks

-- the earliest start from a to z there
abbrev pub earliest_in : Rules → State → Ask → ℕ → ℕ → Option ℕ
earliest_in rules s ask a z = earliest_of (terms_at rules s) s.list ask a z

-- the same after the asks
abbrev pub earliest_after : Rules → State → List Ask → Ask → ℕ → ℕ → Option ℕ
earliest_after rules s asks ask a z = earliest_in rules (after_asks rules s asks) ask a z

-- it is the earliest start of the live book itself after the same asks, whatever it has cancelled
abbrev pub LiveBookStartsAlike : Type 0
LiveBookStartsAlike =
    (b : Book) (asks : List Ask) (ask : Ask) (a z : ℕ)
    → earliest_after b.rules (opened_at b.floor b.booked b.list) asks ask a z ≡ earliest_after b.rules (state_of b) asks ask a z
