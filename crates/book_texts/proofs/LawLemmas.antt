-- Lemmas behind the laws on the output.
use Rattle.std.proofs.Common.{◌≡◌, ◌↔◌, ℕ, suc, ◌+◌, Bool, true, false, not, List, [], ◌∷◌, ◌++◌, length, filter, cond}
use Rattle.std.proofs.Common.{Option, None, All, map}
use Rattle.std.proofs.Common.{Some, refl, sym, ap, ◌∙◌, arith, length-append, if◌then◌else◌}
use Rattle.gateway_book.specs.Saved.{lines_in}
use Rattle.text_lines.specs.Line.{is_too_long}
use Rattle.text_lines.specs.Turns.{reached as reached_by, answers as answers_by, answers-append}
use Rattle.text_lines.specs.Words.{words_of, is_passed_over}
use Rattle.gateway_book.specs.declared.ask.Ask.{Ask}
use Rattle.gateway_book.specs.declared.refusal.Refusal.{Refusal}
use Rattle.gateway_book.specs.Answer.{Rules, refusal_of}
use Rattle.gateway_book.specs.Step.{terms_at, book_step, State}
use Rattle.book_texts.specs.declared.command.Command.{Command}
use Rattle.book_texts.specs.declared.command.Command.TheVariants.{Book, Cancel, Tick, Earliest}
use Rattle.book_texts.specs.declared.command.Said.{Said}
use Rattle.book_texts.specs.declared.command.Said.TheVariants.{Nothing, Order, Malformed}
use Rattle.book_texts.specs.Said.{said, order_or_malformed, command_of}
use Rattle.book_texts.specs.Reply.{reply_line}
use Rattle.text_words.specs.Words.{is_refusal}
use Rattle.book_texts.specs.Answering.{booking_reply, start_reply, reply_of, reply_to, answer_to, state_after_line}
use Rattle.book_texts.specs.Output.{Standing, book_turns, reported, is_starved, opened, report_at, saved_at, answers, reached}
use Rattle.book_texts.specs.Output.{output}
use Rattle.book_texts.specs.Planning.{Planned, plan_turns, opens_plan, plan_output, unplanned, if_line, planned_after_line}
use Rattle.book_texts.specs.Laws.{tried_lines, asks_of, PlanTellsBookings, PlanTellsStarts}
use Rattle.book_texts.proofs.TryingLemmas.{told_answer}
use Rattle.airtime_planner.specs.WhatIf.{Answer, IsAnswer, AreAnswers}
use Rattle.airtime_planner.specs.EarliestAfter.{after_asks, earliest_in}

answered_by : (starved : Bool) (ask : Ask) (o : Option Refusal)
    → (is_refusal (reply_line (booking_reply starved o ask)) ≡ false) ↔ ((o ≡ None) × (starved ≡ false))
answered_by true ask None = (λ e. absurd (cc), λ h. absurd (cc h.1))
answered_by false ask None = (λ e. (refl, refl), λ h. refl)
answered_by starved ask (Some refusal) = (λ e. absurd (cc), λ h. absurd (cc h.0))

pub ok_where_accepted : (rules : Rules) (starved : Bool) (s : State) (ask : Ask)
    → (is_refusal (reply_line (reply_to rules starved s (Book ask))) ≡ false)
    ↔ ((refusal_of (terms_at rules s) s.list ask ≡ None) × (starved ≡ false))
ok_where_accepted rules starved s ask = answered_by starved ask (refusal_of (terms_at rules s) s.list ask)

ordered_once : (rules : Rules) (starved : Bool) (number : ℕ) (s : State) (o : Option Command)
    → length (answer_to rules starved number s (order_or_malformed o)) ≡ 1
ordered_once rules starved number s None = refl
ordered_once rules starved number s (Some command) = refl

long_or_ordered : (rules : Rules) (starved : Bool) (number : ℕ) (s : State) (o : Option Command) (long : Bool)
    → length (answer_to rules starved number s (cond long Malformed (order_or_malformed o))) ≡ 1
long_or_ordered rules starved number s o true = refl
long_or_ordered rules starved number s o false = ordered_once rules starved number s o

counted_once : (rules : Rules) (starved : Bool) (number : ℕ) (s : State) (line : List ℕ) (t : Bool) (counted : List (List ℕ))
    → length (answer_to rules starved number s (cond t Nothing
    (cond (is_too_long line) Malformed (order_or_malformed (command_of (words_of line)))))) + length counted
    ≡ length (cond (not t) (line ∷ counted) counted)
counted_once rules starved number s line true counted = omega arith
counted_once rules starved number s line false counted =
    omega (arith, long_or_ordered rules starved number s (command_of (words_of line)) (is_too_long line))

pub one_answer_a_line : (rules : Rules) (starved : List ℕ) (number : ℕ) (s : State) (lines : List (List ℕ))
    → length (answers rules starved number s lines) ≡ length (filter (λ line. not (is_passed_over line)) lines)
one_answer_a_line rules starved number s [] = refl
one_answer_a_line rules starved number s (line ∷ more) =
    let b : Bool = is_starved starved number in
    let after : State = state_after_line rules b s (said line) in
    length-append (answer_to rules b number s (said line)) (answers rules starved (number + 1) after more)
    ∙ ap (λ n. length (answer_to rules b number s (said line)) + n) (one_answer_a_line rules starved (number + 1) after more)
    ∙ counted_once rules b number s line (is_passed_over line) (filter (λ l. not (is_passed_over l)) more)

pub answers_come_first : (rules : Rules) (starved : List ℕ) (number : ℕ) (s : State) (lines more : List (List ℕ))
    → (rest : List (List ℕ)) × (answers rules starved number s (lines ++ more) ≡ answers rules starved number s lines ++ rest)
answers_come_first rules starved number s lines more =
    let at : Standing = reported rules s in (
      answers_by book_turns starved (number + length lines) (reached_by book_turns starved number at lines) more,
      answers-append book_turns starved number at lines more (number + length lines) refl,
    )

-- before a line `plan` the answers are those of the book, and so is what stands then
unplanned_answers : (rules : Rules) (starved : List ℕ) (number : ℕ) (s : State) (lines : List (List ℕ))
    → All (λ line. opens_plan line ≡ false) lines
    → (answers_by plan_turns starved number (record { rules = rules; state = s; trial = None }) lines
    ≡ answers rules starved number s lines)
    × ((reached_by plan_turns starved number (record { rules = rules; state = s; trial = None }) lines).state
    ≡ reached rules starved number s lines)
unplanned_answers rules starved number s [] shut = (refl, refl)
unplanned_answers rules starved number s (line ∷ more) shut =
    let b : Bool = is_starved starved number in
    let after : State = state_after_line rules b s (said line) in
    let rest = unplanned_answers rules starved (number + 1) after more
    (λ k d h. shut (suc k) d (omega (arith, h))) in
    let first : opens_plan line ≡ false = shut 0 line (omega arith) in
    let next : plan_turns.after b (record { rules = rules; state = s; trial = None }) line
    ≡ record { rules = rules; state = after; trial = None } = rw first refl in (
      rw first (ap (λ l. answer_to rules b number s (said line) ++ l) rest.0),
      ap (λ at. (reached_by plan_turns starved (number + 1) at more).state) next ∙ rest.1,
    )

-- whether the book is saved at the end hangs on no line
reached-saves : (starved : List ℕ) (number : ℕ) (at : Standing) (lines : List (List ℕ))
    → (reached_by book_turns starved number at lines).saves ≡ at.saves
reached-saves starved number at [] = refl
reached-saves starved number at (line ∷ more) =
    reached-saves starved (number + 1) (book_turns.after (is_starved starved number) at line) more

ends_with_report : (rules : Rules) (starved : List ℕ) (lines : List (List ℕ))
    → output rules starved lines ≡ answers rules starved 1 opened lines ++ report_at (reached rules starved 1 opened lines)
ends_with_report rules starved lines =
    let last : Standing = reached_by book_turns starved 1 (reported rules opened) lines in
    ap (λ saves. answers rules starved 1 opened lines
    ++ (if saves then lines_in 2 (saved_at last) else report_at last.state))
    (reached-saves starved 1 (reported rules opened) lines)

pub plan_is_book : (rules : Rules) (starved : List ℕ) (lines : List (List ℕ)) → All (λ line. opens_plan line ≡ false) lines
    → plan_output rules starved lines ≡ output rules starved lines
plan_is_book rules starved lines shut =
    let same = unplanned_answers rules starved 1 opened lines shut in
    let last : State = (reached_by plan_turns starved 1 (unplanned rules) lines).state in
    ap (λ l. l ++ report_at last) same.0 ∙ ap (λ s. answers rules starved 1 opened lines ++ report_at s) same.1
    ∙ sym (ends_with_report rules starved lines)

pub plan_tells_answers : (rules : Rules) (s t : State) (number : ℕ) (lines : List (List ℕ)) (asks : List Ask)
    (tried : List Answer) → map said lines ≡ map (λ ask. Order (Book ask)) asks → AreAnswers rules t asks tried
    → answers_by plan_turns [] number (record { rules = rules; state = s; trial = Some (Some t) }) lines ≡ tried_lines asks tried
plan_tells_answers rules s t number [] [] [] e h = refl
plan_tells_answers rules s t number [] (ask ∷ asks) tried e h = absurd (cc)
plan_tells_answers rules s t number (line ∷ lines) [] tried e h = absurd (cc)
plan_tells_answers rules s t number lines [] (answer ∷ tried) e h = absurd (h)
plan_tells_answers rules s t number lines (ask ∷ asks) [] e h = absurd (h)
plan_tells_answers rules s t number (line ∷ lines) (ask ∷ asks) (answer ∷ tried) e h =
    let first : said line ≡ Order (Book ask) = cc in
    let more : map said lines ≡ map (λ ask. Order (Book ask)) asks = cc in
    let after : Planned = record { rules = rules; state = s; trial = Some (Some (book_step rules t ask)) } in
    let rest : List (List ℕ) = answers_by plan_turns [] (number + 1) after lines in
    rw first (ap (λ reply. if_line reply ∷ rest) (told_answer ask (refusal_of (terms_at rules t) t.list ask) answer h.0)
    ∙ ap (λ l. if_line (reply_of ask answer) ∷ l)
    (plan_tells_answers rules s (book_step rules t ask) (number + 1) lines asks tried more h.1))

-- what would be reserved after lines of a plan is what stands after the bookings among them
module _ (rules : Rules) (s : State) where
  abbrev in_plan : State → Planned
  in_plan t = record { rules = rules; state = s; trial = Some (Some t) }

  reached_line : (number : ℕ) (t : State) (more : List (List ℕ)) (x : Said)
      → ((u : State) → reached_by plan_turns [] number (in_plan u) more ≡ in_plan (after_asks rules u (asks_of (map said more))))
      → reached_by plan_turns [] number
      (record { rules = rules; state = s; trial = Some (planned_after_line rules false (Some t) x) }) more
      ≡ in_plan (after_asks rules t (asks_of (x ∷ map said more)))
  reached_line number t more Nothing rest = rest t
  reached_line number t more Malformed rest = rest t
  reached_line number t more (Order (Book ask)) rest = rest (book_step rules t ask)
  reached_line number t more (Order (Cancel n start)) rest = rest t
  reached_line number t more (Order (Tick now)) rest = rest t
  reached_line number t more (Order (Earliest ask last)) rest = rest t

  reached_asks : (number : ℕ) (t : State) (lines : List (List ℕ))
      → reached_by plan_turns [] number (in_plan t) lines ≡ in_plan (after_asks rules t (asks_of (map said lines)))
  reached_asks number t [] = refl
  reached_asks number t (line ∷ more) =
      reached_line (number + 1) t more (said line) (λ u. reached_asks (number + 1) u more)

-- a question for the earliest start in a plan is answered by what would be reserved then
sought_line : (rules : Rules) (s t : State) (number : ℕ) (line : List ℕ) (ask : Ask) (last : ℕ)
    → said line ≡ Order (Earliest ask last)
    → answers_by plan_turns [] number (in_plan rules s t) (line ∷ [])
    ≡ if_line (start_reply ask.number (earliest_in rules t ask ask.start last)) ∷ []
sought_line rules s t number line ask last is = rw is refl

-- and so is a booking
booked_line : (rules : Rules) (s t : State) (number : ℕ) (line : List ℕ) (ask : Ask) (answer : Answer)
    → said line ≡ Order (Book ask) → IsAnswer rules t ask answer
    → answers_by plan_turns [] number (in_plan rules s t) (line ∷ []) ≡ if_line (reply_of ask answer) ∷ []
booked_line rules s t number line ask answer is h =
    rw is (ap (λ reply. if_line reply ∷ []) (told_answer ask (refusal_of (terms_at rules t) t.list ask) answer h))

-- one more line of a plan is answered by what would be reserved after the bookings before it
one_more : (rules : Rules) (s t : State) (number : ℕ) (lines : List (List ℕ)) (line told : List ℕ)
    → answers_by plan_turns [] (number + length lines) (in_plan rules s (after_asks rules t (asks_of (map said lines))))
    (line ∷ []) ≡ told ∷ []
    → answers_by plan_turns [] number (in_plan rules s t) (lines ++ line ∷ [])
    ≡ answers_by plan_turns [] number (in_plan rules s t) lines ++ told ∷ []
one_more rules s t number lines line told is =
    let at : Planned = in_plan rules s t in
    let next : ℕ = number + length lines in
    let before : List (List ℕ) = answers_by plan_turns [] number at lines in
    answers-append plan_turns [] number at lines (line ∷ []) next refl
    ∙ ap (λ (p : Planned). before ++ answers_by plan_turns [] next p (line ∷ [])) (reached_asks rules s number t lines)
    ∙ ap (λ (l : List (List ℕ)). before ++ l) is

pub plan_tells_bookings : PlanTellsBookings
plan_tells_bookings rules s t number lines line ask answer is h =
    one_more rules s t number lines line (if_line (reply_of ask answer))
    (booked_line rules s (after_asks rules t (asks_of (map said lines))) (number + length lines) line ask answer is h)

pub plan_tells_starts : PlanTellsStarts
plan_tells_starts rules s t number lines line ask last is =
    let later : State = after_asks rules t (asks_of (map said lines)) in
    one_more rules s t number lines line (if_line (start_reply ask.number (earliest_in rules later ask ask.start last)))
    (sought_line rules s later (number + length lines) line ask last is)
