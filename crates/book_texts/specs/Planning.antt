use Rattle.std.specs.Prelude.{ℕ, Bool, false, if◌then◌else◌, List, [], ◌∷◌, Option, Some, None, codes}
use Rattle.text_lines.specs.Line.{is_too_long}
use Rattle.text_lines.specs.Turns.{Turns, output_of}
use Rattle.text_lines.specs.Words.{words_of}
use Rattle.text_words.specs.Words.{is_named, spaced}
use Rattle.gateway_book.specs.declared.ask.Ask.{Ask}
use Rattle.gateway_book.specs.declared.refusal.Refusal.TheVariants.{NoMemory}
use Rattle.gateway_book.specs.Answer.{Rules, refusal_of}
use Rattle.gateway_book.specs.EarliestValue.{earliest_of}
use Rattle.gateway_book.specs.Kept.{kept}
use Rattle.gateway_book.specs.Step.{State, terms_at, book_step}
use Rattle.book_texts.specs.declared.command.Command.{Command}
use Rattle.book_texts.specs.declared.command.Command.TheVariants.{Book, Earliest}
use Rattle.book_texts.specs.declared.command.Said.{Said}
use Rattle.book_texts.specs.declared.command.Said.TheVariants.{Nothing, Order, Malformed}
use Rattle.book_texts.specs.declared.reply.Reply.{Reply}
use Rattle.book_texts.specs.declared.reply.Reply.TheVariants.{Refused, Bad}
use Rattle.book_texts.specs.Said.{said}
use Rattle.book_texts.specs.Reply.{reply_words, reply_line}
use Rattle.book_texts.specs.Answering.{booking_reply, start_reply, answer_to, state_after_line}
use Rattle.book_texts.specs.Output.{opened, report_at}

-- The output of `airbook plan` as a list of lines: up to a line `plan` that of `airbook book`. From there on bookings are only
-- tried, on what the book keeps then. Each accepted one stays for the next, and the earliest start is looked for beside them. At
-- the end comes the report of the book itself. A line `plan` that finds no memory opens a plan without a copy of the book, in
-- which whatever is asked finds none.

-- whether the words are the one word `plan`
abbrev pub are_plan : List (List ℕ) → Bool
are_plan (name ∷ []) = is_named (codes "plan") name
are_plan _ = false

-- whether a line opens the plan
abbrev pub opens_plan : List ℕ → Bool
opens_plan line = if is_too_long line then false else are_plan (words_of line)

-- what the plan's bookings are tried on: what a book keeps, with what is booked
abbrev pub tried_on : State → State
tried_on s = record { floor = s.floor; list = kept s.list s.floor; booked = s.booked; cancelled = 0 }

-- the answer to a booking that is tried, by what would be reserved, as a book gives it; without a copy memory is wanted
abbrev pub tried_reply : Rules → Bool → Option State → Ask → Reply
tried_reply rules starved None ask = Refused ask.number NoMemory
tried_reply rules starved (Some t) ask = booking_reply starved (refusal_of (terms_at rules t) t.list ask) ask

-- what would be reserved after it
abbrev pub tried_after : Rules → Bool → Option State → Ask → Option State
tried_after rules starved None ask = None
tried_after rules starved (Some t) ask = Some (if starved then t else book_step rules t ask)

-- the answer to a question for the earliest start there; it too needs the copy
abbrev pub tried_start : Rules → Option State → Ask → ℕ → Reply
tried_start rules None ask last = Refused ask.number NoMemory
tried_start rules (Some t) ask last = start_reply ask.number (earliest_of (terms_at rules t) t.list ask ask.start last)

-- its line: the answer after the word `if`
abbrev pub if_line : Reply → List ℕ
if_line reply = spaced (codes "if" ∷ reply_words reply)

-- the line that answers a command of the plan, of which bookings and questions for the earliest start alone are some
abbrev pub planned_line : Rules → Bool → ℕ → Option State → Command → List ℕ
planned_line rules starved number trial (Book ask) = if_line (tried_reply rules starved trial ask)
planned_line rules starved number trial (Earliest ask last) = if_line (tried_start rules trial ask last)
planned_line rules starved number trial _ = reply_line (Bad number)

abbrev pub planned_after : Rules → Bool → Option State → Command → Option State
planned_after rules starved trial (Book ask) = tried_after rules starved trial ask
planned_after rules starved trial _ = trial

-- the lines that answer line number `number` of the plan: none, or one
abbrev pub planned_answer : Rules → Bool → ℕ → Option State → Said → List (List ℕ)
planned_answer rules starved number trial Nothing = []
planned_answer rules starved number trial (Order command) = planned_line rules starved number trial command ∷ []
planned_answer rules starved number trial Malformed = reply_line (Bad number) ∷ []

abbrev pub planned_after_line : Rules → Bool → Option State → Said → Option State
planned_after_line rules starved trial Nothing = trial
planned_after_line rules starved trial (Order command) = planned_after rules starved trial command
planned_after_line rules starved trial Malformed = trial

-- what the answers hang on: what the book is opened with, what is reserved, and in the plan what would be, if the book could be
-- copied
pub record Planned : Type 0 where
  pub rules : Rules
  pub state : State
  pub trial : Option (Option State)

-- what a line `plan` makes of the book
abbrev pub copied_of : Bool → State → Option State
copied_of starved s = if starved then None else Some (tried_on s)

-- the lines that answer a line before the plan, and in it
abbrev pub answer_in : Rules → Bool → ℕ → State → Option (Option State) → List ℕ → List (List ℕ)
answer_in rules starved number s None line = if opens_plan line then [] else answer_to rules starved number s (said line)
answer_in rules starved number s (Some trial) line = planned_answer rules starved number trial (said line)

-- what stands after it
abbrev pub after_in : Rules → Bool → State → Option (Option State) → List ℕ → Planned
after_in rules starved s None line =
    if opens_plan line then record { rules = rules; state = s; trial = Some (copied_of starved s) }
    else record { rules = rules; state = state_after_line rules starved s (said line); trial = None }
after_in rules starved s (Some trial) line =
    record { rules = rules; state = s; trial = Some (planned_after_line rules starved trial (said line)) }

-- how each line is answered, and the report of the book at the end
abbrev pub plan_turns : Turns Planned
plan_turns =
    record {
      answer = λ starved number at line. answer_in at.rules starved number at.state at.trial line;
      after = λ starved at line. after_in at.rules starved at.state at.trial line;
      ending = λ at. report_at at.state;
    }

-- at first nothing is reserved, and no plan is open
abbrev pub unplanned : Rules → Planned
unplanned rules = record { rules = rules; state = opened; trial = None }

-- the output of `airbook plan`
abbrev pub plan_output : Rules → List ℕ → List (List ℕ) → List (List ℕ)
plan_output rules = output_of plan_turns (unplanned rules)
