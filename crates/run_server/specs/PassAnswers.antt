use Rattle.std.specs.Prelude.{ℕ, ◌≡◌, ◌≢◌, ◌==◌, Bool, true, false, List, [], ◌∷◌, map, find, Option, None, Some}
use Rattle.std.specs.Global.{Global}
use Rattle.std.specs.Option.{option_map_or}
use Rattle.std.specs.List.{flat_map}
use Rattle.answer_ticket.specs.declared.outcome.Ending.TheVariants.{Answered, Unanswered, GivenUp}
use Rattle.answer_ticket.specs.declared.tried.Receipt.{Receipt}
use Rattle.answer_ticket.specs.Tried.{booked_candidate}
use Rattle.gateway_book.specs.declared.refusal.Refusal.TheVariants as refusals
use Rattle.server_core.specs.declared.entry.Line.{Line}
use Rattle.server_core.specs.declared.entry.Line.TheVariants as lines
use Rattle.server_core.specs.Entries.{not_taken}
use Rattle.server_desk.specs.declared.faults.TakeFault.{TakeFault}
use Rattle.server_workers.specs.Filing.{Filing, IsByNumber}
use Rattle.run_server.specs.declared.pass_answers.Answer.{Answer}
use Rattle.run_server.specs.declared.pass_ends.End.{End}
use Rattle.run_server.specs.declared.pass_ends.End.TheVariants as ends
use Rattle.run_server.specs.Booking.{booking_of}
use Rattle.run_server.specs.PassEnds.{end_of}

-- What a run with workers answers to the uplinks that one `pass` closed (docs/FORMATS.md, "airbook run").

-- an answer without a frame
abbrev pub line_alone : ℕ → Line Global → Answer
line_alone number line = record { number = number; line = line; frame = None }

-- no ticket was given: none is owed, or one was refused
abbrev pub refused_answer : ℕ → TakeFault → Answer
refused_answer number fault = line_alone number (not_taken number fault)

-- the transmission that a receipt names, and its frame
abbrev pub sent_answer : ℕ → Bool → Receipt Global → Answer
sent_answer n carries r =
    record { number = n; line = lines.Send n (booked_candidate r carries); frame = Some r.frame }

-- what was booked for number n is told as the first of these receipts with its number says; where none has it, as a stray
abbrev pub booked_answer : List (Receipt Global) → ℕ → Bool → Answer
booked_answer receipts n carries =
    option_map_or (sent_answer n carries) (find (λ (r : Receipt Global). r.number == n) receipts)
    (line_alone n (lines.Stray n))

-- how an answer that ended so is told; one that was given up found no memory
abbrev pub answer_to : List (Receipt Global) → ℕ → End → Answer
answer_to receipts n (ends.Settled (Answered gateway window start airtime carried)) = booked_answer receipts n carried
answer_to receipts n (ends.Settled (Unanswered refusal)) = line_alone n (lines.Unanswered n refusal)
answer_to receipts n (ends.Settled GivenUp) = line_alone n (lines.Unanswered n refusals.NoMemory)
answer_to receipts n (ends.Refused fault) = refused_answer n fault
answer_to receipts n ends.Stray = line_alone n (lines.Stray n)

-- the answer to number n; one of which nothing is known is a stray
abbrev pub answer_in : Filing Global → ℕ → Answer
answer_in f n = option_map_or (answer_to f.receipts n) (end_of f n) (line_alone n (lines.Stray n))

-- a receipt that was told: where frames are moved it has none any more
abbrev pub told_receipt : Bool → Receipt Global → Receipt Global
told_receipt true r = (booking_of r).receipt
told_receipt false r = r

-- number n was told: the receipts are as before but for their frames, and by each other number the same is found, by n too where
-- frames are not moved
pub record AreTold (is_moved : Bool) (n : ℕ) (old new : List (Receipt Global)) : Type 0 where
  pub same : map booking_of new ≡ map booking_of old
  pub found : (m : ℕ) → (is_moved ≡ true → m ≢ n)
      → find (λ (r : Receipt Global). r.number == m) new ≡ find (λ (r : Receipt Global). r.number == m) old

-- the same of all ends: each other number still has the same answer
pub record IsToldOf (is_moved : Bool) (n : ℕ) (old new : Filing Global) : Type 0 where
  pub by_number : IsByNumber new
  pub same : map booking_of new.receipts ≡ map booking_of old.receipts
  pub answer : (m : ℕ) → (is_moved ≡ true → m ≢ n) → answer_in new m ≡ answer_in old m

-- the lines of an answer: its own, and that of its frame
abbrev pub framed : ℕ → Option (List ℕ) → List (Line Global)
framed n None = []
framed n (Some bytes) = lines.Frame n bytes ∷ []

abbrev pub lines_of : Answer → List (Line Global)
lines_of answer = answer.line ∷ framed answer.number answer.frame

-- the lines of some answers, one after another
abbrev pub all_lines : List Answer → List (Line Global)
all_lines answers = flat_map lines_of answers
