use Rattle.std.specs.Prelude.{◌≡◌, ℕ, Bool, true, false, List, Option, Some, None, ⊤}
use Rattle.std.proofs.Common.{refl}
use Rattle.text_lines.specs.Line.{kept}
use Rattle.text_lines.specs.Progress.{IsAnswer}
use Rattle.text_lines.specs.Turns.{TurnsByKept, EndsWithoutRefusal}
use Rattle.gateway_book.specs.declared.ask.Ask.{Ask}
use Rattle.gateway_book.specs.declared.refusal.Refusal.TheVariants.{NoMemory}
use Rattle.gateway_book.specs.Book.{Book, terms_of, state_of}
use Rattle.gateway_book.specs.EarliestValue.{earliest_of}
use Rattle.gateway_book.specs.Step.{State}
use Rattle.gateway_book.specs.Remembers.{StandsFor}
use Rattle.book_texts.specs.declared.reply.Reply.{Reply}
use Rattle.book_texts.specs.declared.reply.Reply.TheVariants.{Refused}
use Rattle.book_texts.specs.Answering.{start_reply}
use Rattle.book_texts.specs.Said.{said-kept, by_kept}
use Rattle.book_texts.specs.Planning.{Planned, plan_turns, tried_reply, tried_after, opens_plan}
use Rattle.book_texts.specs.Planning.{answer_in, after_in}
use Rattle.book_texts.specs.Progress.{report-refuses_nothing}

-- What a plan does with a line, and what stands then.

-- a booking was tried on a book, and this is the answer
pub record IsTried (old new : Book) (ask : Ask) (reply : Reply) : Type 0 where
  pub starved : Bool
  pub answered : reply ≡ tried_reply old.rules starved (Some (state_of old)) ask
  pub reached : Some (state_of new) ≡ tried_after old.rules starved (Some (state_of old)) ask
  pub rules : new.rules ≡ old.rules

-- the same on a copy of a book that may be missing: then memory is wanted
abbrev pub IsTriedOn : Option Book → Option Book → Ask → Reply → Type 0
IsTriedOn (Some old) (Some new) ask reply = IsTried old new ask reply
IsTriedOn None None ask reply = reply ≡ Refused ask.number NoMemory
IsTriedOn _ _ ask reply = ⊥

-- the earliest start was looked for on a copy of a book that may be missing, and this is the answer
abbrev pub IsSoughtOn : Option Book → Ask → ℕ → Reply → Type 0
IsSoughtOn (Some copy) ask last reply =
    reply ≡ start_reply ask.number (earliest_of (terms_of copy) copy.list ask ask.start last)
IsSoughtOn None ask last reply = reply ≡ Refused ask.number NoMemory

-- the copy of a book on which a plan is tried, where there was memory for one
abbrev pub IsCopied : Book → Option Book → Type 0
IsCopied book None = ⊤
IsCopied book (Some copy) =
    (copy.rules ≡ book.rules)
    × (state_of copy ≡ record { floor = book.floor; list = book.list; booked = book.booked; cancelled = 0 })

-- a plan is open, and what would be reserved in it is what its copy of the book has. Where there was no memory for a copy,
-- there is none to the end
abbrev pub IsCopyOf : Option Book → Planned → Type 0
IsCopyOf None at = at.trial ≡ Some None
IsCopyOf (Some copy) at = (copy.rules ≡ at.rules) × (at.trial ≡ Some (Some (state_of copy)))

abbrev pub IsPlanOf : Bool → Option Book → Planned → Type 0
IsPlanOf false copy at = at.trial ≡ None
IsPlanOf true copy at = IsCopyOf copy at

-- what stands in a book, and in the copy of it that a plan has once it is open
pub record StandsPlanned (book : Book) (is_planned : Bool) (copy : Option Book) (at : Planned) : Type 0 where
  pub rules : book.rules ≡ at.rules
  pub stands : StandsFor book at.state
  pub plan : IsPlanOf is_planned copy at

-- a line of the plan is answered by what its copy of the book has; the book itself stays as it is
abbrev pub IsTrialTurn : Option Book → Option Book → ℕ → List ℕ → List ℕ → Bool → Type 0
IsTrialTurn old new number line text refused =
    (at : Planned) → IsCopyOf old at
    → IsAnswer plan_turns at (λ next. (next.rules ≡ at.rules) × (next.state ≡ at.state) × IsCopyOf new next) number line text
    refused

opens_plan-kept : (line : List ℕ) → opens_plan (kept line) ≡ opens_plan line
opens_plan-kept = by_kept opens_plan false (λ line e. rw e refl)

-- what is kept of a line does what the line does
pub plan_turns_by_kept : TurnsByKept plan_turns
plan_turns_by_kept starved number at line = by at.trial
  where
    by : (trial : Option (Option State))
        → (answer_in at.rules starved number at.state trial (kept line) ≡ answer_in at.rules starved number at.state trial line)
        × (after_in at.rules starved at.state trial (kept line) ≡ after_in at.rules starved at.state trial line)
    by None = (
      rw (opens_plan-kept line, said-kept line) refl,
      rw (opens_plan-kept line, said-kept line) refl,
    )
    by (Some trial) = (rw (said-kept line) refl, rw (said-kept line) refl)

-- no line of the report begins with `no` or `bad`
pub plan_ends_without_refusal : EndsWithoutRefusal plan_turns
plan_ends_without_refusal at = report-refuses_nothing at.state
