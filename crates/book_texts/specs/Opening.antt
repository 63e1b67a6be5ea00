use Rattle.std.specs.Prelude.{ℕ, Bool, if◌then◌else◌, List, [], Ok, Err}
use Rattle.std.specs.Str.Lines.{lines}
use Rattle.text_lines.specs.Turns.{output_of}
use Rattle.resv_list.specs.Reservations.{net}
use Rattle.gateway_book.specs.Answer.{Rules}
use Rattle.gateway_book.specs.Book.{Book}
use Rattle.gateway_book.specs.Loading.{Loaded, loaded}
use Rattle.gateway_book.specs.Saved.{Saved}
use Rattle.gateway_book.specs.Step.{State}
use Rattle.book_texts.specs.Output.{Standing, book_turns, opened}

-- What the bytes of a text of `airbook book` are: lines, or with `--resume` a saved book and then lines; and the output for
-- them, which with `--save` ends with the saved book.

-- the empty book of gateway 1
abbrev pub empty_book : Rules → Book
empty_book rules =
    record { id = 1; rules = rules; floor = 0; list = []; booked = 0; cancelled = 0; retired = 0 }

-- before the first line: an empty book of gateway 1
abbrev pub empty_standing : Bool → Rules → Standing
empty_standing saves rules = record { saves = saves; id = 1; rules = rules; state = opened }

-- what is reserved in a book that is opened again: it has booked what it keeps
abbrev pub resumed_state : Saved → State
resumed_state s = record { floor = s.floor; list = s.list; booked = net s.list; cancelled = 0 }

-- before the first line: the saved book
abbrev pub resumed_standing : Bool → Saved → Standing
resumed_standing saves s = record { saves = saves; id = s.id; rules = s.rules; state = resumed_state s }

-- the output for what follows a saved book, if there is one
abbrev pub output_behind : Bool → List ℕ → Loaded → List (List ℕ)
output_behind saves starved (Ok (s, rest)) = output_of book_turns (resumed_standing saves s) starved (lines rest)
output_behind saves starved (Err fault) = []

-- the output for a saved book and the lines that follow it
abbrev pub resumed_output : Bool → List ℕ → List ℕ → List (List ℕ)
resumed_output saves starved bytes = output_behind saves starved (loaded bytes)

-- the output for the bytes. Where they begin with a saved book, its rules hold, and others are not looked at
abbrev pub book_output : Bool → Bool → Rules → List ℕ → List ℕ → List (List ℕ)
book_output resume saves rules starved bytes =
    if resume then resumed_output saves starved bytes
    else output_of book_turns (empty_standing saves rules) starved (lines bytes)
