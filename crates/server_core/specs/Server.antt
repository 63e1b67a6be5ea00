use Rattle.std.specs.Prelude.{ℕ, ◌≡◌, false, List, [], ◌∷◌, ◌++◌, map, Contains, IsTrue, Option, Some, Result, Ok, Err}
use Rattle.std.specs.Option.{option_map}
use Rattle.std.specs.List.{AllZip}
use Rattle.gateway_book.specs.Book.{Book}
use Rattle.gateway_book.specs.Orderly.{IsOrderly}
use Rattle.gateway_book.specs.Remembers.{Remembers}
use Rattle.gateway_book.specs.declared.cancel.CancelFault.{CancelFault}
use Rattle.uplink_gather.specs.declared.heard.HeardCopy.{HeardCopy}
use Rattle.uplink_gather.specs.Gatherings.{Gathering, numbered}
use Rattle.rx_windows.specs.declared.candidate.Candidate.{Candidate}
use Rattle.answer_ticket.specs.Job.{Job, candidate_at}
use Rattle.server_core.specs.declared.server.Server.{Server}
use Rattle.server_core.specs.declared.event.Event.{Event}
use Rattle.server_core.specs.declared.entry.Entry.{Entry}
use Rattle.server_core.specs.declared.entry.Line.{Line}
use Rattle.server_core.specs.declared.entry.Line.TheVariants as says
use Rattle.server_desk.specs.Register.{is_among}
use Rattle.server_desk.specs.declared.heard.DeskHeard.{DeskHeard}
use Rattle.server_desk.specs.declared.faults.QueueFault.{QueueFault}
use Rattle.server_desk.specs.declared.faults.DeskFault.{DeskFault}
use Rattle.server_desk.specs.declared.answers.Known.{Known}
use Rattle.server_desk.specs.Answers.{is_given}
use Rattle.server_desk.specs.Desk.{DeskView, desk_of}
use Rattle.server_desk.specs.World.{World, Gateway}
use Rattle.server_core.specs.Steps.{Step, Cancel, step}
use Rattle.server_core.specs.Steps as replies
use Rattle.server_core.specs.Schedule.{reached, due_numbers, pass_steps, event_steps, step_of}
use Rattle.server_core.specs.Entries.{step_lines, event_lines, entry_at}

-- What one thread keeps of the system, and how it goes on.

-- what it keeps: what the desk knows, the gateways' books, the steps that it made, where they are asked for, and the lines that
-- it told
pub record Seen (A : Type 0) : Type 0 where
  pub desk : DeskView
  pub books : List Book
  pub steps : Option (List Step)
  pub outcomes : List (Entry A)

-- what a server is seen as
abbrev pub seen : {S A R : Type 0} {C : _} → Server S A R C → Seen A
seen s =
    record {
      desk = s.desk;
      books = s.books.items;
      steps = option_map (λ made. map step_of made.items) s.steps;
      outcomes = s.outcomes.items;
    }

-- these steps more are kept, where any are
abbrev pub noting : List Step → Option (List Step) → Option (List Step)
noting ss kept = option_map (λ made. made ++ ss) kept

-- without the lines that were told
abbrev pub without_lines : {A : Type 0} → Seen A → Seen A
without_lines s = record s { outcomes = [] }

-- after one more step, and after more lines
abbrev pub with_step : {A : Type 0} → Step → Seen A → Seen A
with_step made s = record s { steps = noting (made ∷ []) s.steps }

-- after these lines were told for the event at this place
abbrev pub with_lines : {A : Type 0} → ℕ → List (Line A) → Seen A → Seen A
with_lines place lines s = record s { outcomes = s.outcomes ++ map (entry_at place) lines }

-- a book beside the world's gateway, whose orderly list forgets nothing
pub record IsBookOf (b : Book) (g : Gateway) : Type 0 where
  pub id : b.id ≡ g.id
  pub rules : b.rules ≡ g.rules
  pub orderly : IsOrderly b.rules.gap g.state.list
  pub remembers : Remembers b g.state

-- each book is the gateway's at its place
abbrev pub AreBooksOf : List Book → List Gateway → Type 0
AreBooksOf books gateways = AllZip IsBookOf books gateways

-- the desk and the books are those of this world
pub record AreAt (w : World) (d : DeskView) (bs : List Book) : Type 0 where
  pub desk : d ≡ desk_of w
  pub books : AreBooksOf bs w.gateways

-- it keeps this world
abbrev pub IsAt : {A : Type 0} → World → Seen A → Type 0
IsAt w s = AreAt w s.desk s.books

-- it made these steps from a world, and told these lines
pub record Goes {A : Type 0} (w : World) (ss : List Step) (lines : List (Entry A)) (old new : Seen A) : Type 0 where
  pub at : IsAt (reached w ss) new
  pub steps : new.steps ≡ noting ss old.steps
  pub outcomes : new.outcomes ≡ old.outcomes ++ lines

-- it made these steps from a world, and told the lines for them as an answer to the event at this place
abbrev pub Moves : {A : Type 0} → ℕ → World → List Step → Seen A → Seen A → Type 0
Moves place w ss old new = Goes w ss (map (entry_at place) (step_lines w ss)) old new

-- it does so from the world that it keeps
abbrev pub Makes : {A : Type 0} → ℕ → (World → List Step) → Seen A → Seen A → Type 0
Makes place steps old new =
    (w : World) → IsAt w old → Moves place w (steps w) old new

-- it makes the steps of an event, and tells its lines
abbrev pub Does : {A : Type 0} → ℕ → Event A → Seen A → Seen A → Type 0
Does place e old new =
    (w : World) → IsAt w old → Goes w (event_steps w e) (map (entry_at place) (event_lines w e)) old new

-- no ticket or stub is out
abbrev pub IsIdle : List Known → Type 0
IsIdle known = (n : ℕ) (k : Known) → numbered n known ≡ Some k → is_given k ≡ false

-- each copy was heard by a gateway with one of these ids
abbrev pub HasHeard : List ℕ → Gathering → Type 0
HasHeard ids g = (c : HeardCopy) → Contains g.copies c → IsTrue (is_among ids c.gateway)

abbrev pub AreHeard : List ℕ → List Gathering → Type 0
AreHeard ids l = (n : ℕ) (g : Gathering) → numbered n l ≡ Some g → HasHeard ids g

-- each candidate of the job is on a gateway with one of these ids
abbrev pub AreHere : List ℕ → Job → Type 0
AreHere ids job = (k : ℕ) (c : Candidate) → candidate_at job k ≡ Some c → IsTrue (is_among ids c.gateway)

-- the gateways of these books
abbrev pub ids_of : List Book → List ℕ
ids_of books = map (λ b. b.id) books

-- the books are those of the desk's gateways, which heard all copies, and no ticket is out
pub record AreReady (d : DeskView) (bs : List Book) : Type 0 where
  pub books : ids_of bs ≡ d.ids
  pub heard : AreHeard d.ids d.reg.gathered.list
  pub idle : IsIdle d.known

-- it is ready for an event
abbrev pub IsBetweenCalls : {A : Type 0} → Seen A → Type 0
IsBetweenCalls s = AreReady s.desk s.books

-- the line that answers a payload, a copy of an uplink, or what was to be cancelled
abbrev pub queued_line : {A : Type 0} → ℕ → Result ℕ QueueFault → Line A
queued_line addr (Ok count) = says.Queued addr count
queued_line addr (Err fault) = says.NotQueued fault

-- the line for what a copy was answered
abbrev pub heard_line : {A : Type 0} → Result DeskHeard DeskFault → Line A
heard_line (Ok place) = says.Heard place
heard_line (Err fault) = says.NotHeard fault

-- the line for what a cancel was answered
abbrev pub cancelled_line : {A : Type 0} → ℕ → Result ℕ CancelFault → Line A
cancelled_line n (Ok airtime) = says.Cancelled n airtime
cancelled_line n (Err fault) = says.NotCancelled n fault

-- a transmission was cancelled, or why it was not
pub record IsCancelled {A : Type 0} (n : ℕ) (old new : Seen A) (result : Result ℕ CancelFault) : Type 0 where
  pub desk : new.desk ≡ old.desk
  pub steps : new.steps ≡ old.steps
  pub outcomes : new.outcomes ≡ old.outcomes
  pub books : ids_of new.books ≡ ids_of old.books
  pub kept : (w : World) → IsAt w old → AreBooksOf new.books (step w (Cancel n)).0.gateways
  pub reply : (w : World) → IsAt w old → (step w (Cancel n)).1 ≡ replies.Cancelled result

-- the steps in which all that is due is closed and answered
abbrev pub pass_whole : World → ℕ → List Step
pass_whole w now = pass_steps w now (due_numbers now w.reg.gathered.list)
