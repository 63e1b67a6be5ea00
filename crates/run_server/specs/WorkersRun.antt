use Rattle.std.specs.Prelude.{ℕ, ◌≡◌, ◌↔◌, ◌+◌, ◌≤◌, false, List, [], ◌∷◌, ◌++◌, map, All}
use Rattle.std.specs.Prelude.{Option, None, Some, IsNone, IfSome, Result}
use Rattle.std.specs.Global.{Global}
use Rattle.std.specs.List.Sorted.{IsStrictlyIncreasing}
use Rattle.air_ledger.specs.Tills.{Holding}
use Rattle.gateway_book.specs.declared.totals.Totals.{Totals}
use Rattle.gateway_book.specs.Book.{Book, totals_of}
use Rattle.answer_ticket.specs.declared.tried.Receipt.{Receipt}
use Rattle.server_core.specs.declared.entry.Entry.{Entry}
use Rattle.server_core.specs.declared.entry.Line.{Line}
use Rattle.server_core.specs.declared.entry.Line.TheVariants as lines
use Rattle.server_core.specs.declared.event.Event.{Event}
use Rattle.server_core.specs.declared.event.Event.TheVariants as events
use Rattle.server_core.specs.Entries.{entry_at}
use Rattle.server_core.specs.Server.{queued_line, heard_line}
use Rattle.server_desk.specs.declared.faults.DeskFault.{DeskFault}
use Rattle.server_desk.specs.declared.faults.QueueFault.{QueueFault}
use Rattle.server_desk.specs.declared.heard.DeskHeard.{DeskHeard}
use Rattle.server_desk.specs.Register.{is_among}
use Rattle.server_core.specs.Desk.{DeskView, total_of}
use Rattle.book_audit.specs.Audit.{airtime_at, booked_by, kept_numbers, EachStandsOnce, IsAccountedFor}
use Rattle.book_audit.specs.declared.cause.FinishCause.{FinishCause}
use Rattle.server_station.specs.Stations.{WasQueued, WasHeard, WasPassed, WasTicked}
use Rattle.server_station.specs.Closings.{shelved, IsCauseAt}
use Rattle.text_words.specs.declared.fault.TextFault.{TextFault}
use Rattle.run_server.specs.declared.pass_answers.Answer.{Answer}
use Rattle.run_server.specs.Booking.{Booking}
use Rattle.run_server.specs.PassAnswers.{all_lines}
use Rattle.run_server.specs.Bookings.{HasMore, booked_for, IsCancelTold}
use Rattle.run_server.specs.PassTold.{IsPassTold}
use Rattle.run_server.specs.FinishFaults.{IsFinishFault}

-- What a run with workers does for its events, one after another (docs/FORMATS.md, "airbook run"). Behind a lock no more is known
-- than a value's type, so what a station answers is what some desk or some book says.

-- so many workers as a station may have
abbrev pub IsStaffed : ℕ → Type 0
IsStaffed workers = (1 ≤ workers) × (workers ≤ 16)

-- what the till holds, what was booked, and the lines that were told
pub record RunState : Type 0 where
  pub till : Holding
  pub bookings : List Booking
  pub entries : List (Entry Global)

-- that of a till, what was booked, and the lines that were told
abbrev pub run_state : Holding → List Booking → List (Entry Global) → RunState
run_state till bookings entries = record { till = till; bookings = bookings; entries = entries }

-- the lines of these answers were told for the event at this place
abbrev pub HasTold : ℕ → List Answer → List (Entry Global) → List (Entry Global) → Type 0
HasTold place answers old new = new ≡ old ++ map (entry_at place) (all_lines answers)

-- each of these numbers was closed at that time, and then none was due; no number stands twice, and they rise
pub record WereClosed (now : ℕ) (numbers : List ℕ) : Type 0 where
  pub each : All (λ n. WasPassed now (Some n)) numbers
  pub until : WasPassed now None
  pub rising : IsStrictlyIncreasing numbers

-- these numbers, of which there are some, were answered for the event at this place, at a station of these gateways
pub record AreAnswered (ids : List ℕ) (place : ℕ) (numbers : List ℕ) (old new : RunState) : Type 0 where
  pub answers : List Answer
  pub booked : List (Receipt Global)
  pub pass : IsPassTold ids old.till new.till numbers answers booked
  pub told : HasTold place answers old.entries new.entries
  pub kept : HasMore booked old.bookings new.bookings

-- so were these, of which there may be none
abbrev pub AreDealtWith : List ℕ → ℕ → List ℕ → RunState → RunState → Type 0
AreDealtWith ids place [] old new = new ≡ old
AreDealtWith ids place (n ∷ numbers) old new = AreAnswered ids place (n ∷ numbers) old new

-- all that was closed at that time was answered, by number
pub record HasPassed (ids : List ℕ) (place now : ℕ) (old new : RunState) : Type 0 where
  pub numbers : List ℕ
  pub closed : WereClosed now numbers
  pub answered : AreDealtWith ids place numbers old new

-- one line was told for the event at this place, and nothing was booked or cancelled
abbrev pub HasOneLine : ℕ → Line Global → RunState → RunState → Type 0
HasOneLine place line old new =
    (new.till ≡ old.till) × (new.bookings ≡ old.bookings) × (new.entries ≡ old.entries ++ entry_at place line ∷ [])

-- what a station of these gateways answers to a tick: the floor that some book had then, and none just where the gateway is not
-- one of them
abbrev pub IsTickAnswer : List ℕ → ℕ → ℕ → Option ℕ → Type 0
IsTickAnswer ids gateway now floor = (IsNone floor ↔ (is_among ids gateway ≡ false)) × IfSome floor (WasTicked now)

-- the line of a gateway's floor
abbrev pub floor_line : ℕ → Option ℕ → Line Global
floor_line gateway None = lines.NotTicked
floor_line gateway (Some floor) = lines.Floor gateway floor

-- a cancel of number n was answered
abbrev pub HasCancelled : List ℕ → ℕ → ℕ → RunState → RunState → Type 0
HasCancelled ids place n old new =
    (line : Line Global) × IsCancelTold ids n (booked_for n old.bookings) old.bookings new.bookings line
    × (new.till ≡ old.till) × (new.entries ≡ old.entries ++ entry_at place line ∷ [])

-- what was done for the event at this place, at a station of these gateways
abbrev pub IsDone : List ℕ → ℕ → Event Global → RunState → RunState → Type 0
IsDone ids place (events.Queue addr port payload) old new =
    (answer : Result ℕ QueueFault) × WasQueued addr (port, payload) answer × HasOneLine place (queued_line addr answer) old new
IsDone ids place (events.Hear bytes heard arrived) old new =
    (answer : Result DeskHeard DeskFault) × WasHeard bytes heard arrived answer × HasOneLine place (heard_line answer) old new
IsDone ids place (events.Pass now) old new = HasPassed ids place now old new
IsDone ids place (events.Tick gateway now) old new =
    (floor : Option ℕ) × IsTickAnswer ids gateway now floor × HasOneLine place (floor_line gateway floor) old new
IsDone ids place (events.Cancel n) old new = HasCancelled ids place n old new
IsDone ids place (events.Bad line) old new = HasOneLine place (lines.Bad line) old new

-- a shift: its station's gateways, for as many workers as it is, and the run so far
pub record ShiftState : Type 0 where
  pub ids : List ℕ
  pub workers : ℕ
  pub run : RunState

abbrev pub shift_state : List ℕ → ℕ → RunState → ShiftState
shift_state ids workers run = record { ids = ids; workers = workers; run = run }

-- what was done for the event at this place, at a shift that stays for so many workers
pub record IsShiftDone (place : ℕ) (e : Event Global) (old new : ShiftState) : Type 0 where
  pub ids : new.ids ≡ old.ids
  pub workers : new.workers ≡ old.workers
  pub done : IsDone old.ids place e old.run new.run

-- what was done for some events, the first of them at this place, one after another
abbrev pub AreDone : List ℕ → ℕ → List (Event Global) → RunState → RunState → Type 0
AreDone ids place [] old new = new ≡ old
AreDone ids place (e ∷ es) old new = (mid : RunState) × IsDone ids place e old mid × AreDone ids (place + 1) es mid new

-- the till of a station that has settled nothing, with all parts of the ledger
abbrev pub opening_till : Holding
opening_till = record { parts = 65536; amount = 0 }

-- nothing was settled or booked, and nothing told
abbrev pub HasOpened : RunState → Type 0
HasOpened k = k ≡ run_state opening_till [] []

-- the books of the gateways with these numbers, at the end, and what they have counted: a desk has answered what they have
-- booked, no number stands twice in them, and these receipts are accounted for
pub record IsClosing (ids : List ℕ) (receipts : List (Receipt Global)) (totals : List (ℕ × Totals)) (books : List Book)
    : Type 0 where
  pub desk : DeskView
  pub gateways : map (λ (t : ℕ × Totals). t.0) totals ≡ ids
  pub counted : map (λ (t : ℕ × Totals). t.1) totals ≡ map totals_of books
  pub sum : booked_by books ≡ total_of desk
  pub equal : All (λ (t : ℕ × Totals). t.1.booked ≡ airtime_at desk t.0) totals
  pub once : EachStandsOnce (kept_numbers books)
  pub accounted : All (IsAccountedFor (shelved totals books)) receipts

-- the books of these gateways don't go with a desk, or with just these receipts
abbrev pub IsClosingFault : List ℕ → List (Receipt Global) → TextFault → Type 0
IsClosingFault ids receipts fault = (cause : FinishCause) × IsCauseAt ids receipts cause × IsFinishFault cause fault
