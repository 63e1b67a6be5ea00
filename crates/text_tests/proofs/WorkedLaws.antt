-- What the laws on the texts of a book and of a run say of worked lines: each tells a fact there, so that none is empty.
use Rattle.std.proofs.Common.{◌<◌, ℕ, ◌≡◌, List, [], ◌∷◌, ◌++◌, length, All, Some, zero, suc, codes, refl, arith}
use Rattle.std.specs.Prelude.{false}
use Rattle.radio_airtime.specs.declared.data_rate.DataRate.TheVariants.{Dr5}
use Rattle.gateway_book.specs.declared.ask.Ask.{Ask}
use Rattle.gateway_book.specs.Answer.{Rules}
use Rattle.gateway_book.specs.Step.{State}
use Rattle.airtime_planner.specs.EarliestAfter.{after_asks, earliest_after}
use Rattle.airtime_planner.specs.WhatIf.{Answer, IsAnswer}
use Rattle.text_lines.specs.Turns.{answers as answers_by}
use Rattle.text_lines.specs.Line.{HasNoLineFeed}
use Rattle.run_lines.specs.ReplayText.{replay_lines}
use Rattle.run_lines.specs.WholeLines.{LinesAreWhole}
use Rattle.server_core.specs.World.{Gateway}
use Rattle.server_core.specs.declared.entry.Entry.{Entry}
use Rattle.std.specs.Global.{Global}
use Rattle.std.specs.Prelude.{get_or}
use Rattle.book_texts.specs.Answering.{reply_of, start_reply}
use Rattle.book_texts.specs.Laws.{AnswersComeFirst, OneAnswerALine, PlanIsBook, PlanTellsAnswers}
use Rattle.book_texts.specs.Laws.{PlanTellsBookings, PlanTellsStarts}
use Rattle.book_texts.specs.Output.{answers, output}
use Rattle.book_texts.specs.Planning.{if_line, opens_plan, plan_output, plan_turns}

-- Of a comment, a blank line and a tick the last one alone is answered, and what follows changes no answer.
module _ (rules : Rules) (s : State) where
  abbrev three : List (List ℕ)
  three = codes "# note" ∷ [] ∷ codes "tick 5" ∷ []

  one_answer : OneAnswerALine → length (answers rules [] 1 s three) ≡ 1
  one_answer law = law rules [] 1 s three

  comes_first : AnswersComeFirst → (line : List ℕ) → (rest : List (List ℕ))
      × (answers rules [] 1 s (three ++ line ∷ []) ≡ answers rules [] 1 s three ++ rest)
  comes_first law line = law rules [] 1 s three (line ∷ [])

-- A tick is no line `plan`.

no_plan : All (λ line. opens_plan line ≡ false) (codes "tick 5" ∷ [])
no_plan zero line h = refl
no_plan (suc k) line h = absurd (omega (arith, h))

is_book : PlanIsBook → (rules : Rules) → plan_output rules [] (codes "tick 5" ∷ []) ≡ output rules [] (codes "tick 5" ∷ [])
is_book law rules = law rules [] (codes "tick 5" ∷ []) no_plan

-- A booking, and a question for the earliest start, each behind one booking of a plan.

abbrev asked_at : ℕ → Ask
asked_at start = record { number = 8; start = start; freq_hz = 868100000; rate = Dr5; len = 12 }

abbrev booking : List ℕ
booking = codes "book 8 0 868100000 5 12"

abbrev question : List ℕ
question = codes "earliest 8 0 9 868100000 5 12"

module _ (rules : Rules) (s t : State) where
  abbrev answered : List (List ℕ) → List (List ℕ)
  answered lines = answers_by plan_turns [] 3 (record { rules = rules; state = s; trial = Some (Some t) }) lines

  tells_answer : PlanTellsAnswers → (answer : Answer) → IsAnswer rules t (asked_at 0) answer
      → answered (booking ∷ []) ≡ if_line (reply_of (asked_at 0) answer) ∷ []
  tells_answer law answer h = law rules s t 3 (booking ∷ []) (asked_at 0 ∷ []) (answer ∷ []) refl (h, tt)

  tells_booking : PlanTellsBookings → (answer : Answer)
      → IsAnswer rules (after_asks rules t (asked_at 0 ∷ [])) (asked_at 0) answer
      → answered (booking ∷ booking ∷ []) ≡ answered (booking ∷ []) ++ if_line (reply_of (asked_at 0) answer) ∷ []
  tells_booking law answer = law rules s t 3 (booking ∷ []) booking (asked_at 0) answer refl

  tells_start : PlanTellsStarts → answered (booking ∷ question ∷ [])
      ≡ answered (booking ∷ []) ++ if_line (start_reply 8 (earliest_after rules t (asked_at 0 ∷ []) (asked_at 0) 0 9)) ∷ []
  tells_start law = law rules s t 3 (booking ∷ []) question (asked_at 0) 9 refl

-- No line of a run has a line feed inside, whatever its entries and gateways.

line_is_whole : LinesAreWhole → (entries : List (Entry Global)) (gateways : List Gateway) (i : ℕ) (line : List ℕ)
    → i < length (replay_lines entries gateways) → HasNoLineFeed (get_or (replay_lines entries gateways) i line)
line_is_whole law = law
