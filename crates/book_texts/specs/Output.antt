use Rattle.std.specs.Prelude.{ℕ, Bool, false, if◌then◌else◌, List, [], length}
pub use Rattle.text_lines.specs.Turns.{is_starved}
use Rattle.text_lines.specs.Turns.{Turns, reached as reached_by, answers as answers_by, output_of}
use Rattle.resv_list.specs.Reservations.{net}
use Rattle.gateway_book.specs.Answer.{Rules}
use Rattle.gateway_book.specs.Kept.{kept, retired_of}
use Rattle.gateway_book.specs.Saved.{Saved, lines_in}
use Rattle.gateway_book.specs.Step.{State}
use Rattle.gateway_book.specs.declared.totals.Totals.{Totals}
use Rattle.book_texts.specs.Said.{said}
use Rattle.book_texts.specs.Report.{report_of}
use Rattle.book_texts.specs.Answering.{answer_to, state_after_line}

-- The output of `airbook book` as a list of lines: a function of the lines of the input, of what stands before the first of
-- them, and of the numbers of those lines at which a booking found no memory.

-- at first nothing is reserved
abbrev pub opened : State
opened = record { floor = 0; list = []; booked = 0; cancelled = 0 }

-- what a book has counted there: of what is booked and not cancelled it keeps what its floor has left in sight, and has
-- retired the rest
abbrev pub counted_at : State → Totals
counted_at s =
    record {
      booked = s.booked;
      cancelled = s.cancelled;
      retired = net (retired_of s.list s.floor);
      kept_airtime = net (kept s.list s.floor);
      kept = length (kept s.list s.floor);
      floor = s.floor;
    }

-- the report there
abbrev pub report_at : State → List (List ℕ)
report_at s = report_of (counted_at s) (kept s.list s.floor)

-- what a book's output hangs on: whether the book is saved at the end, its gateway's number, what it is opened with, and what
-- is reserved
pub record Standing : Type 0 where
  pub saves : Bool
  pub id : ℕ
  pub rules : Rules
  pub state : State

-- what is saved there: what the book keeps
abbrev pub saved_at : Standing → Saved
saved_at at =
    record { id = at.id; rules = at.rules; floor = at.state.floor; list = kept at.state.list at.state.floor }

-- the lines at the end: the report, or in its place the saved book
abbrev pub ending_at : Standing → List (List ℕ)
ending_at at = if at.saves then lines_in 2 (saved_at at) else report_at at.state

-- how a book answers each line, and ends
abbrev pub book_turns : Turns Standing
book_turns =
    record {
      answer = λ starved number at line. answer_to at.rules starved number at.state (said line);
      after = λ starved at line. record {
        saves = at.saves;
        id = at.id;
        rules = at.rules;
        state = state_after_line at.rules starved at.state (said line);
      };
      ending = λ at. ending_at at;
    }

-- the book of gateway 1, of which a report is made
abbrev pub reported : Rules → State → Standing
reported rules s = record { saves = false; id = 1; rules = rules; state = s }

module _ (rules : Rules) (starved : List ℕ) where
  -- what is reserved after the lines, which are counted from `number`
  abbrev pub reached : ℕ → State → List (List ℕ) → State
  reached number s lines = (reached_by book_turns starved number (reported rules s) lines).state

  -- the lines that answer them, in turn
  abbrev pub answers : ℕ → State → List (List ℕ) → List (List ℕ)
  answers number s lines = answers_by book_turns starved number (reported rules s) lines

-- the output of `airbook book` without its flags: an answer to each line that is not passed over, and the report
abbrev pub output : Rules → List ℕ → List (List ℕ) → List (List ℕ)
output rules = output_of book_turns (reported rules opened)
