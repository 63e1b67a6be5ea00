use Rattle.std.specs.Prelude.{ℕ, ◌≡◌, ◌+◌, List, [], ◌∷◌, ◌++◌, codes, decimal, Option, Some, None, IsSome, ⊤}
use Rattle.std.specs.Global.{Global}
use Rattle.server_desk.specs.declared.setting.DeviceSetting.{DeviceSetting}
use Rattle.server_core.specs.declared.entry.Entry.{Entry}
use Rattle.server_core.specs.declared.event.Event.{Event}
use Rattle.text_words.specs.Words.{spaced}
use Rattle.run_lines.specs.Datagram.{datagram_event}
use Rattle.run_lines.specs.ReplayText.{entry_lines}
use Rattle.air_ledger.specs.Tills.{Holding}
use Rattle.run_server.specs.Booking.{Booking}
use Rattle.run_server.specs.WorkersRun.{run_state, opening_till, IsDone}
use Rattle.airbook_text.specs.Receives.{Received}

-- What a server that listens answers, turn by turn (docs/FORMATS.md, "airbook listen").

-- the line for a receive that failed
abbrev pub unread_line : ℕ → List ℕ
unread_line turn = spaced (codes "bad" ∷ decimal turn ∷ codes "Read" ∷ [])

-- what the till holds, and what was booked
pub record Account : Type 0 where
  pub till : Holding
  pub bookings : List Booking

-- that of a till and of what was booked
abbrev pub account_of : Holding → List Booking → Account
account_of till bookings = record { till = till; bookings = bookings }

-- at first
abbrev pub empty_account : Account
empty_account = account_of opening_till []

-- what was told in some turns, and the lines that were written
pub record Said : Type 0 where
  pub entries : List (Entry Global)
  pub lines : List (List ℕ)

abbrev pub nothing : Said
nothing = record { entries = []; lines = [] }

-- what was said in some turns, and then in others
abbrev pub said_both : Said → Said → Said
said_both first rest = record { entries = first.entries ++ rest.entries; lines = first.lines ++ rest.lines }

-- what is said to an event at a station of these gateways, and what is settled and booked then, is what a run with workers tells,
-- settles and books for it
abbrev pub IsAnswered : List ℕ → ℕ → Option (Event Global) → Account → Account → Said → Type 0
IsAnswered ids turn None old new said = (new ≡ old) × (said ≡ nothing)
IsAnswered ids turn (Some event) old new said =
    IsDone ids turn event (run_state old.till old.bookings []) (run_state new.till new.bookings said.entries)
    × (said.lines ≡ entry_lines said.entries)

-- what was received has an answer: a receive that failed has its line, and a datagram has one where it asks for something
abbrev pub HasAnswer : List DeviceSetting → ℕ → Received → Type 0
HasAnswer devices turn None = ⊤
HasAnswer devices turn (Some datagram) = IsSome (datagram_event {A = Global} devices turn datagram)

-- what is said in one turn, by what was received
abbrev pub IsTurn : List ℕ → List DeviceSetting → ℕ → Received → Account → Account → Said → Type 0
IsTurn ids devices turn None old new said = (new ≡ old) × (said ≡ record { entries = []; lines = unread_line turn ∷ [] })
IsTurn ids devices turn (Some datagram) old new said = IsAnswered ids turn (datagram_event devices turn datagram) old new said

-- the same of several turns, the first of them with this number, one after another
abbrev pub AreTurns : List ℕ → List DeviceSetting → ℕ → List Received → Account → Account → Said → Type 0
AreTurns ids devices turn [] old new said = (new ≡ old) × (said ≡ nothing)
AreTurns ids devices turn (r ∷ rs) old new said =
    (mid : Account) × (first : Said) × (rest : Said) × IsTurn ids devices turn r old mid first
    × AreTurns ids devices (turn + 1) rs mid new rest × (said ≡ said_both first rest)
