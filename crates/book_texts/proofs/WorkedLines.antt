-- What the laws on the output say of all lines and all books, and at worked lines: each tells a fact there.
use Rattle.std.proofs.Common.{ℕ, ◌≡◌, false, not, List, [], ◌∷◌, ◌++◌, length, codes, Some, All}
use Rattle.std.proofs.Common.{refl, arith}
use Rattle.std.proofs.lemmas.List.Elements.{All-cons}
use Rattle.std.specs.Fmt.{digits}
use Rattle.std.specs.Prelude.{map, filter}
use Rattle.radio_airtime.specs.TimeOnAir.{airtime_of}
use Rattle.radio_bands.specs.Band.{band_of}
use Rattle.resv_list.specs.Reservations.{begun, net}
use Rattle.text_lines.specs.Turns.{answers as answers_by}
use Rattle.text_lines.specs.Words.{is_passed_over}
use Rattle.text_words.specs.Words.{spaced}
use Rattle.gateway_book.specs.Answer.{Rules, overlap}
use Rattle.gateway_book.specs.Busiest.{busiest_of}
use Rattle.gateway_book.specs.Duty.{full_hour}
use Rattle.gateway_book.specs.Kept.{kept}
use Rattle.gateway_book.specs.Step.{State}
use Rattle.gateway_book.specs.declared.ask.Ask.{Ask}
use Rattle.airtime_planner.specs.EarliestAfter.{after_asks, earliest_after}
use Rattle.airtime_planner.specs.WhatIf.{Answer, AreAnswers, IsAnswer}
use Rattle.book_texts.specs.Answering.{reply_of, start_reply}
use Rattle.book_texts.specs.Laws.{OneAnswerALine, AnswersComeFirst, PlanIsBook, PlanTellsAnswers, PlanTellsBookings}
use Rattle.book_texts.specs.Laws.{PlanTellsStarts, tried_lines, asks_of}
use Rattle.book_texts.specs.Output.{answers, opened, output}
use Rattle.book_texts.specs.Planning.{opens_plan, plan_output, plan_turns}
use Rattle.book_texts.specs.Reply.{reply_words}
use Rattle.book_texts.specs.Said.{said}
use Rattle.book_texts.specs.declared.command.Command.TheVariants.{Book, Earliest, Tick}
use Rattle.book_texts.specs.declared.command.Said.TheVariants.{Nothing, Order, Malformed}

-- Of all lines, wherever they stand, whatever is reserved before them, and whichever of them find no memory.

module _ (rules : Rules) (starved : List ℕ) where
  module _ (number : ℕ) (s : State) (lines : List (List ℕ)) where
    pub each_line_has_one_answer : OneAnswerALine
        → length (answers rules starved number s lines) ≡ length (filter (λ line. not (is_passed_over line)) lines)
    each_line_has_one_answer law = law rules starved number s lines

    pub each_answer_comes_first : AnswersComeFirst → (more : List (List ℕ)) → (rest : List (List ℕ))
        × (answers rules starved number s (lines ++ more) ≡ answers rules starved number s lines ++ rest)
    each_answer_comes_first law more = law rules starved number s lines more

  pub each_plan_without_its_word_is_book : PlanIsBook → (lines : List (List ℕ)) → All (λ line. opens_plan line ≡ false) lines
      → plan_output rules starved lines ≡ output rules starved lines
  each_plan_without_its_word_is_book law = law rules starved

-- Of all lines of a plan, whatever its bookings are tried on.

module _ (rules : Rules) (s t : State) (number : ℕ) where
  abbrev told : List (List ℕ) → List (List ℕ)
  told lines = answers_by plan_turns [] number (record { rules = rules; state = s; trial = Some (Some t) }) lines

  pub each_plan_tells_answers : PlanTellsAnswers → (lines : List (List ℕ)) (asks : List Ask) (tried : List Answer)
      → map said lines ≡ map (λ ask. Order (Book ask)) asks → AreAnswers rules t asks tried
      → told lines ≡ tried_lines asks tried
  each_plan_tells_answers law = law rules s t number

  pub each_plan_tells_bookings : PlanTellsBookings → (lines : List (List ℕ)) (line : List ℕ) (ask : Ask) (answer : Answer)
      → said line ≡ Order (Book ask) → IsAnswer rules (after_asks rules t (asks_of (map said lines))) ask answer
      → told (lines ++ line ∷ []) ≡ told lines ++ spaced (codes "if" ∷ reply_words (reply_of ask answer)) ∷ []
  each_plan_tells_bookings law = law rules s t number

  pub each_plan_tells_starts : PlanTellsStarts → (lines : List (List ℕ)) (line : List ℕ) (ask : Ask) (last : ℕ)
      → said line ≡ Order (Earliest ask last)
      → told (lines ++ line ∷ [])
      ≡ told lines
      ++ spaced (codes "if" ∷ reply_words
      (start_reply ask.number (earliest_after rules t (asks_of (map said lines)) ask ask.start last))) ∷ []
  each_plan_tells_starts law = law rules s t number

-- each ask that is tried has a line, and no other has
pub each_tried_has_a_line : (ask : Ask) (answer : Answer) (asks : List Ask) (tried : List Answer) →
    tried_lines (ask ∷ asks) (answer ∷ tried) ≡ spaced (codes "if" ∷ reply_words (reply_of ask answer)) ∷ tried_lines asks tried
each_tried_has_a_line ask answer asks tried = refl

pub no_other_has_a_line : tried_lines [] [] ≡ []
no_other_has_a_line = refl

-- the bookings among what lines say, in turn
pub bookings_are_found : (one other ask : Ask) (last now : ℕ) →
    asks_of (Nothing ∷ Order (Book one) ∷ Malformed ∷ Order (Earliest ask last) ∷ Order (Tick now) ∷ Order (Book other) ∷ [])
    ≡ one ∷ other ∷ []
bookings_are_found one other ask last now = refl

-- Four lines, of which a comment and an empty one have no answer.

abbrev rules : Rules
rules = record { cap = 4096; gap = 0 }

abbrev four : List (List ℕ)
four = codes "book 1 0 868100000 5 12" ∷ codes "# note" ∷ [] ∷ codes "book 2" ∷ []

pub two_have_answers : OneAnswerALine → (starved : List ℕ) (number : ℕ) (s : State)
    → length (answers rules starved number s four) ≡ 2
two_have_answers law starved number s = law rules starved number s four

-- none of them opens a plan
none_opens : All (λ line. opens_plan line ≡ false) four
none_opens =
    let P : List ℕ → Type 0 = λ line. opens_plan line ≡ false in
    All-cons P (codes "book 1 0 868100000 5 12") (codes "# note" ∷ [] ∷ codes "book 2" ∷ []) refl
    (All-cons P (codes "# note") ([] ∷ codes "book 2" ∷ []) refl
    (All-cons P [] (codes "book 2" ∷ []) refl
    (All-cons P (codes "book 2") [] refl (λ k line h. absurd (omega (arith, h))))))

pub they_are_answered : PlanIsBook → plan_output rules [] four
    ≡ codes "ok 1 0 41216" ∷ codes "bad 4 Syntax" ∷ codes "booked 41216" ∷ codes "cancelled 0" ∷ codes "retired 0"
    ∷ codes "kept 1 41216" ∷ codes "floor 0" ∷ codes "busiest M 0 41216" ∷ []
unfolding airtime_of band_of net begun kept overlap full_hour busiest_of digits
they_are_answered law = law rules [] four none_opens

-- what is answered to a booking stands before the answers to whatever follows it
pub first_is_answered_first : AnswersComeFirst → (more : List (List ℕ)) → (rest : List (List ℕ))
    × (answers rules [] 1 opened (codes "book 1 0 868100000 5 12" ∷ more) ≡ codes "ok 1 0 41216" ∷ rest)
unfolding airtime_of band_of net begun kept overlap full_hour digits
first_is_answered_first law more = law rules [] 1 opened (codes "book 1 0 868100000 5 12" ∷ []) more
