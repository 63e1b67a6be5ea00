use Rattle.std.specs.Prelude.{◌≡◌, ◌↔◌, ℕ, Bool, false, not, List, [], ◌∷◌, ◌++◌, length, map, filter, Some, None, All}
use Rattle.text_lines.specs.Words.{is_passed_over}
use Rattle.gateway_book.specs.declared.ask.Ask.{Ask}
use Rattle.gateway_book.specs.Answer.{Rules, refusal_of}
use Rattle.gateway_book.specs.Step.{terms_at, State}
use Rattle.book_texts.specs.declared.command.Command.TheVariants.{Book, Earliest}
use Rattle.book_texts.specs.Reply.{reply_line}
use Rattle.text_words.specs.Words.{is_refusal}
use Rattle.book_texts.specs.Answering.{reply_of, start_reply, reply_to}
use Rattle.book_texts.specs.Output.{answers, output}
use Rattle.book_texts.specs.Planning.{opens_plan, plan_output, plan_turns, if_line}
use Rattle.book_texts.specs.Said.{said}
use Rattle.book_texts.specs.declared.command.Said.{Said}
use Rattle.book_texts.specs.declared.command.Said.TheVariants.{Order}
use Rattle.airtime_planner.specs.WhatIf.{Answer, IsAnswer, AreAnswers}
use Rattle.airtime_planner.specs.EarliestAfter.{after_asks, earliest_after}
use Rattle.text_lines.specs.Turns.{answers as answers_by}

-- Laws on the output.

-- a booking is answered without `no` exactly where the book accepts it and finds memory
abbrev pub OkWhereAccepted : Type 0
OkWhereAccepted =
    (rules : Rules) (starved : Bool) (s : State) (ask : Ask)
    → (is_refusal (reply_line (reply_to rules starved s (Book ask))) ≡ false)
    ↔ ((refusal_of (terms_at rules s) s.list ask ≡ None) × (starved ≡ false))

-- each line that is not passed over has one line that answers it
abbrev pub OneAnswerALine : Type 0
OneAnswerALine =
    (rules : Rules) (starved : List ℕ) (number : ℕ) (s : State) (lines : List (List ℕ))
    → length (answers rules starved number s lines) ≡ length (filter (λ line. not (is_passed_over line)) lines)

-- the answers to some lines come first in the answers to them and others after them
abbrev pub AnswersComeFirst : Type 0
AnswersComeFirst =
    (rules : Rules) (starved : List ℕ) (number : ℕ) (s : State) (lines more : List (List ℕ))
    → (rest : List (List ℕ)) × (answers rules starved number s (lines ++ more) ≡ answers rules starved number s lines ++ rest)

-- without a line `plan` the output of `airbook plan` is that of `airbook book`
abbrev pub PlanIsBook : Type 0
PlanIsBook =
    (rules : Rules) (starved : List ℕ) (lines : List (List ℕ))
    → All (λ line. opens_plan line ≡ false) lines → plan_output rules starved lines ≡ output rules starved lines

-- the lines that tell the answers to bookings which are tried
abbrev pub tried_lines : List Ask → List Answer → List (List ℕ)
tried_lines (ask ∷ asks) (answer ∷ answers) = if_line (reply_of ask answer) ∷ tried_lines asks answers
tried_lines _ _ = []

-- the lines of a plan that are bookings are answered by what the book would answer to these asks, one after another, where memory
-- is found
abbrev pub PlanTellsAnswers : Type 0
PlanTellsAnswers =
    (rules : Rules) (s t : State) (number : ℕ) (lines : List (List ℕ)) (asks : List Ask) (tried : List Answer)
    → map said lines ≡ map (λ ask. Order (Book ask)) asks → AreAnswers rules t asks tried
    → answers_by plan_turns [] number (record { rules = rules; state = s; trial = Some (Some t) }) lines ≡ tried_lines asks tried

-- the bookings among what lines say, in turn
abbrev pub asks_of : List Said → List Ask
asks_of [] = []
asks_of (Order (Book ask) ∷ more) = ask ∷ asks_of more
asks_of (_ ∷ more) = asks_of more

-- a booking, after whatever lines of a plan, is answered by what the book would answer after the bookings among them, of which
-- each accepted one stays, where memory is found
abbrev pub PlanTellsBookings : Type 0
PlanTellsBookings =
    (rules : Rules) (s t : State) (number : ℕ) (lines : List (List ℕ)) (line : List ℕ) (ask : Ask) (answer : Answer)
    → said line ≡ Order (Book ask) → IsAnswer rules (after_asks rules t (asks_of (map said lines))) ask answer
    → answers_by plan_turns [] number (record { rules = rules; state = s; trial = Some (Some t) }) (lines ++ line ∷ [])
    ≡ answers_by plan_turns [] number (record { rules = rules; state = s; trial = Some (Some t) }) lines
    ++ if_line (reply_of ask answer) ∷ []

-- a question for the earliest start, after whatever lines of a plan, is answered by the earliest start after the bookings among
-- them
abbrev pub PlanTellsStarts : Type 0
PlanTellsStarts =
    (rules : Rules) (s t : State) (number : ℕ) (lines : List (List ℕ)) (line : List ℕ) (ask : Ask) (last : ℕ)
    → said line ≡ Order (Earliest ask last)
    → answers_by plan_turns [] number (record { rules = rules; state = s; trial = Some (Some t) }) (lines ++ line ∷ [])
    ≡ answers_by plan_turns [] number (record { rules = rules; state = s; trial = Some (Some t) }) lines
    ++ if_line (start_reply ask.number (earliest_after rules t (asks_of (map said lines)) ask ask.start last)) ∷ []
