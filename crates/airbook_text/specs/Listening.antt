use Rattle.std.specs.Prelude.{ℕ, ◌≡◌, ◌≤◌, ◌⊎◌, ⊤, Bool, List, [], ◌∷◌, ◌++◌, map, Option, IsSome, Result, Err}
use Rattle.std.specs.Io.KnownBytes.{Appends}
use Rattle.text_lines.specs.Line.{text_of}
use Rattle.text_lines.specs.Writing.{WritesFront}
use Rattle.gateway_book.specs.Book.{Book}
use Rattle.gateway_book.specs.declared.totals.Totals.{Totals}
use Rattle.book_audit.specs.Audit.{booked_by}
use Rattle.server_desk.specs.declared.setting.DeviceSetting.{DeviceSetting}
use Rattle.server_core.specs.Settings.{SettingLists}
use Rattle.server_core.specs.Entries.{gateway_of}
use Rattle.server_station.specs.Stations.{AreInOrder}
use Rattle.text_words.specs.declared.fault.TextFault.{TextFault}
use Rattle.text_words.specs.declared.fault.TextFault.TheVariants.{Write, Settings, NoMemory}
use Rattle.text_words.specs.Words.{has_refusal}
use Rattle.run_lines.specs.declared.uplink_counts.UplinkCounts.{UplinkCounts}
use Rattle.run_lines.specs.UplinkCounts.{counts_of}
use Rattle.run_lines.specs.ReplayText.{report_of}
use Rattle.run_server.specs.Bookings.{open_receipts}
use Rattle.run_server.specs.FinishFaults.{IsFinishName}
use Rattle.run_server.specs.WorkersRun.{IsClosing, IsClosingFault}
use Rattle.airbook_text.specs.Receives.{datagram_room, Received, Seen, AreMade}
use Rattle.airbook_text.specs.ListenTurns.{Account, Said, empty_account, HasAnswer, IsTurn, AreTurns}

-- What a server that listens writes: its answers, turn by turn, and a report (docs/FORMATS.md, "airbook listen").

-- the report of just the books that a station of these gateways was closed with, after so much was settled and booked, and of
-- how many uplinks were answered
pub record IsReport (ids : List ℕ) (account : Account) (counts : UplinkCounts) (report : List (List ℕ)) : Type 0 where
  pub totals : List (ℕ × Totals)
  pub books : List Book
  pub closing : IsClosing ids (open_receipts account.bookings) totals books
  pub booked : booked_by books ≡ account.till.amount
  pub lines : report ≡ report_of counts (map gateway_of books)

-- at a station of these gateways, with these devices, the writer took the answers to what was received, turn by turn, and the
-- report; `refused` says whether a line of them begins with `no` or `bad`
pub record IsHeard (ids : List ℕ) (devices : List DeviceSetting) (received : List Received) (before after : Option (List ℕ))
    (refused : Bool) : Type 0 where
  pub account : Account
  pub said : Said
  pub report : List (List ℕ)
  pub turns : AreTurns ids devices 1 received empty_account account said
  pub reported : IsReport ids account (counts_of said.entries) report
  pub written : Appends before after (text_of (said.lines ++ report))
  pub told : refused ≡ has_refusal (said.lines ++ report)

-- just so many receives were made, each with the room for a datagram, and answered so
abbrev pub Hears : ℕ → List ℕ → List DeviceSetting → Seen → Seen → Option (List ℕ) → Option (List ℕ) → Bool → Type 0
Hears turns ids devices old new before after refused =
    (received : List Received) × AreMade datagram_room turns old new received × IsHeard ids devices received before after refused

-- at a server with these settings
abbrev pub Listens : ℕ → SettingLists → Seen → Seen → Option (List ℕ) → Option (List ℕ) → Bool → Type 0
Listens turns settings old new before after refused =
    (ids : List ℕ) × AreInOrder settings.gateways ids × Hears turns ids settings.devices old new before after refused

-- what was written of what is to be said so, by the fault: a front of it where a call of the writer failed, and nothing where a
-- growth was refused
abbrev pub SaysInPart : (Account → Said → Type 0) → Option (List ℕ) → Option (List ℕ) → TextFault → Type 0
SaysInPart IsSaid before after Write =
    (account : Account) × (said : Said) × IsSaid account said × WritesFront before after (text_of said.lines)
SaysInPart IsSaid before after NoMemory = after ≡ before
SaysInPart IsSaid before after other = ⊥

-- what was written of the report: a front of it where a call of the writer failed, and nothing where a growth was refused, or
-- where the books don't go with what was booked, as the fault's name says
abbrev pub ReportsInPart : List ℕ → Account → UplinkCounts → Option (List ℕ) → Option (List ℕ) → TextFault → Type 0
ReportsInPart ids account counts before after Write =
    (report : List (List ℕ)) × IsReport ids account counts report × WritesFront before after (text_of report)
ReportsInPart ids account counts before after NoMemory = after ≡ before
ReportsInPart ids account counts before after (Settings name) =
    (after ≡ before) × IsClosingFault ids (open_receipts account.bookings) (Settings name)
ReportsInPart ids account counts before after other = ⊥

-- a server with these gateways and devices stopped in one of so many turns: all answers of the turns before were written, and its
-- own in part; what it received then has an answer, and a growth was refused only where it is a datagram
pub record StopsInTurn (turns : ℕ) (ids : List ℕ) (devices : List DeviceSetting) (old new : Seen)
    (before after : Option (List ℕ)) (fault : TextFault) : Type 0 where
  pub turn : ℕ
  pub within : turn ≤ turns
  pub received : List Received
  pub last : Received
  pub made : AreMade datagram_room turn old new (received ++ last ∷ [])
  pub given : fault ≡ NoMemory → IsSome last
  pub answered : HasAnswer devices turn last
  pub account : Account
  pub said : Said
  pub turned : AreTurns ids devices 1 received empty_account account said
  pub between : Option (List ℕ)
  pub written : Appends before between (text_of said.lines)
  pub stopped : SaysInPart (IsTurn ids devices turn last account) between after fault

-- it stopped after just so many turns, at a station of these gateways: all answers were written, and the report in part
pub record StopsAtReport (turns : ℕ) (ids : List ℕ) (devices : List DeviceSetting) (old new : Seen)
    (before after : Option (List ℕ)) (fault : TextFault) : Type 0 where
  pub received : List Received
  pub made : AreMade datagram_room turns old new received
  pub account : Account
  pub said : Said
  pub turned : AreTurns ids devices 1 received empty_account account said
  pub between : Option (List ℕ)
  pub written : Appends before between (text_of said.lines)
  pub stopped : ReportsInPart ids account (counts_of said.entries) between after fault

-- it stopped in a turn or after all of them
abbrev pub HearsInPart : ℕ → List ℕ → List DeviceSetting → Seen → Seen → Option (List ℕ) → Option (List ℕ) → TextFault → Type 0
HearsInPart turns ids devices old new before after fault =
    StopsInTurn turns ids devices old new before after fault ⊎ StopsAtReport turns ids devices old new before after fault

-- at a server with these settings; or a growth was refused to the server itself, and nothing was received and nothing written
abbrev pub ListensInPart : ℕ → SettingLists → Seen → Seen → Option (List ℕ) → Option (List ℕ) → TextFault → Type 0
ListensInPart turns settings old new before after fault =
    ((fault ≡ NoMemory) × (new ≡ old) × (after ≡ before))
    ⊎ ((ids : List ℕ) × AreInOrder settings.gateways ids × HearsInPart turns ids settings.devices old new before after fault)

-- so many turns as a server may listen for
abbrev pub IsWithinLimit : ℕ → Type 0
IsWithinLimit turns = (1 ≤ turns) × (turns ≤ 1000000)

-- the call is refused by this name
abbrev pub IsRefusedAs : {T : Type 0} → List ℕ → Result T TextFault → Type 0
IsRefusedAs name (Err (Settings given)) = given.now ≡ name
IsRefusedAs name result = ⊥

-- why a server stopped listening: a call of the writer failed, a growth was refused, or the books don't go with the answers
abbrev pub IsListenFault : TextFault → Type 0
IsListenFault Write = ⊤
IsListenFault NoMemory = ⊤
IsListenFault (Settings name) = IsFinishName name.now
IsListenFault other = ⊥
