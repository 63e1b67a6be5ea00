use Rattle.std.specs.Prelude.{ℕ, max, Bool, if◌then◌else◌, List, [], ◌∷◌, Option, Some, None, Result, Ok, Err}
use Rattle.resv_list.specs.declared.reservation.Reservation.{Reservation}
use Rattle.resv_list.specs.Reservations.{end_of}
use Rattle.gateway_book.specs.declared.ask.Ask.{Ask}
use Rattle.gateway_book.specs.declared.refusal.Refusal.{Refusal}
use Rattle.gateway_book.specs.declared.refusal.Refusal.TheVariants.{NoMemory}
use Rattle.gateway_book.specs.Answer.{Rules, ask_end, refusal_of}
use Rattle.gateway_book.specs.declared.cancel.CancelFault.{CancelFault}
use Rattle.gateway_book.specs.Step.{State, terms_at, book_step, cancel_answer, cancel_step, tick_step}
use Rattle.gateway_book.specs.Book.{airtime_answer}
use Rattle.gateway_book.specs.EarliestValue.{earliest_of}
use Rattle.book_texts.specs.declared.command.Command.{Command}
use Rattle.book_texts.specs.declared.command.Command.TheVariants.{Book, Cancel, Tick, Earliest}
use Rattle.book_texts.specs.declared.command.Said.{Said}
use Rattle.book_texts.specs.declared.command.Said.TheVariants.{Nothing, Order, Malformed}
use Rattle.book_texts.specs.declared.reply.Reply.{Reply}
use Rattle.book_texts.specs.declared.reply.Reply.TheVariants.{Booked, Refused, Cancelled, NotCancelled, Floor, At, NoStart, Bad}
use Rattle.book_texts.specs.Reply.{reply_line}

-- What one line of input does, by what is reserved when it comes. `starved` says that the book finds no memory
-- for one more reservation then.

-- what is told of a book's own answer to a booking
abbrev pub reply_of : Ask → Result Reservation Refusal → Reply
reply_of ask (Ok r) = Booked r.number r.start (end_of r)
reply_of ask (Err refusal) = Refused ask.number refusal

-- the answer to a booking; want of memory is the last refusal
abbrev pub booking_reply : Bool → Option Refusal → Ask → Reply
booking_reply starved None ask =
    if starved then Refused ask.number NoMemory else Booked ask.number ask.start (ask_end ask)
booking_reply starved (Some refusal) ask = Refused ask.number refusal

-- the answer to a cancellation, by the airtime that was taken out or the fault
abbrev pub cancel_reply : ℕ → Result ℕ CancelFault → Reply
cancel_reply number (Ok airtime) = Cancelled number airtime
cancel_reply number (Err fault) = NotCancelled number fault

-- the answer to a question for the earliest start, by what was found
abbrev pub start_reply : ℕ → Option ℕ → Reply
start_reply number (Some start) = At number start
start_reply number None = NoStart number

-- the answer to a command
abbrev pub reply_to : Rules → Bool → State → Command → Reply
reply_to rules starved s (Book ask) = booking_reply starved (refusal_of (terms_at rules s) s.list ask) ask
reply_to rules starved s (Cancel number start) =
    cancel_reply number (airtime_answer (cancel_answer s.floor s.list number start))
reply_to rules starved s (Tick now) = Floor (max s.floor now)
reply_to rules starved s (Earliest ask last) =
    start_reply ask.number (earliest_of (terms_at rules s) s.list ask ask.start last)

-- what is reserved after it
abbrev pub state_after : Rules → Bool → State → Command → State
state_after rules starved s (Book ask) = if starved then s else book_step rules s ask
state_after rules starved s (Cancel number start) = cancel_step s number start
state_after rules starved s (Tick now) = tick_step s now
state_after rules starved s (Earliest ask last) = s

-- the lines that answer line number `number`: none, or one
abbrev pub answer_to : Rules → Bool → ℕ → State → Said → List (List ℕ)
answer_to rules starved number s Nothing = []
answer_to rules starved number s (Order command) = reply_line (reply_to rules starved s command) ∷ []
answer_to rules starved number s Malformed = reply_line (Bad number) ∷ []

-- what is reserved after that line
abbrev pub state_after_line : Rules → Bool → State → Said → State
state_after_line rules starved s Nothing = s
state_after_line rules starved s (Order command) = state_after rules starved s command
state_after_line rules starved s Malformed = s
