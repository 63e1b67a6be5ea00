use Rattle.std.specs.Prelude.{◌≡◌, ℕ, Bool, List, map, Option, Some, None, Result, Ok, Err, ⊤, codes}
use Rattle.std.specs.Io.KnownBytes.{Appends, Consumes}
use Rattle.std.specs.Str.Lines.{lines}
use Rattle.text_lines.specs.Line.{text_of}
use Rattle.text_lines.specs.Writing.{WritesFront}
use Rattle.std.specs.Global.{Global}
use Rattle.gateway_book.specs.Book.{Book}
use Rattle.gateway_book.specs.declared.totals.Totals.{Totals}
use Rattle.server_core.specs.declared.entry.Entry.{Entry}
use Rattle.server_core.specs.declared.event.Event.{Event}
use Rattle.server_core.specs.Settings.{SettingLists}
use Rattle.server_core.specs.Entries.{entries, gateways_after, kept_gateway, gateway_of}
use Rattle.settings_text.specs.declared.settings_fault.ReadFault.{ReadFault}
use Rattle.text_words.specs.declared.fault.TextFault.{TextFault}
use Rattle.text_words.specs.declared.fault.TextFault.TheVariants.{Write, Settings, NoMemory}
use Rattle.text_words.specs.Words.{has_refusal}
use Rattle.settings_text.specs.SettingsOfBytes.{settings_in, IsNamed, IsRefusedBy}
use Rattle.run_lines.specs.ReplayText.{replay_lines}
use Rattle.run_lines.specs.RunInput.{settings_part, event_part}
use Rattle.run_lines.specs.RunEvents.{events_of}
use Rattle.run_server.specs.FinishFaults.{IsPlayFault}
use Rattle.airbook_text.specs.Played.{IsPlayed, IsPlayedApart}

-- The output of `airbook run`, and what its text promises of a reader and a writer that tell their bytes.

-- the lines for these events: what one thread answers, and its report
abbrev pub lines_for : {A : Type 0} → SettingLists → List (Event A) → List (List ℕ)
lines_for settings events = replay_lines (entries settings events) (map kept_gateway (gateways_after settings events))

-- the lines for an input with these settings: the bytes after the line that parts it are event lines
abbrev pub run_lines : Type 0 → SettingLists → List ℕ → List (List ℕ)
run_lines A settings bytes = lines_for {A = A} settings (events_of settings.devices (lines (event_part bytes)))

-- all these bytes were read, and say settings; the writer took the output for them, and `refused` says whether a line of
-- it begins with `no` or `bad`
pub record IsRun (A : Type 0) (bytes : List ℕ) (left_after before after : Option (List ℕ)) (refused : Bool) : Type 0 where
  pub settings : SettingLists
  pub given : settings_in (settings_part bytes) ≡ Ok settings
  pub consumed : Consumes (Some bytes) left_after bytes
  pub written : Appends before after (text_of (run_lines A settings bytes))
  pub told : refused ≡ has_refusal (run_lines A settings bytes)

-- the same where the reader tells what it has left
abbrev pub Runs : Type 0 → Option (List ℕ) → Option (List ℕ) → Option (List ℕ) → Option (List ℕ) → Bool → Type 0
Runs A None left_after before after refused = ⊤
Runs A (Some bytes) left_after before after refused = IsRun A bytes left_after before after refused

-- all these bytes were read, and say settings; the writer took a front of the output for them
pub record IsRunInPart (A : Type 0) (bytes : List ℕ) (left_after before after : Option (List ℕ)) : Type 0 where
  pub settings : SettingLists
  pub given : settings_in (settings_part bytes) ≡ Ok settings
  pub consumed : Consumes (Some bytes) left_after bytes
  pub written : WritesFront before after (text_of (run_lines A settings bytes))

-- where a write failed, the same for a reader that tells what it has left
abbrev pub RunsInPart : Type 0 → Option (List ℕ) → Option (List ℕ) → Option (List ℕ) → Option (List ℕ) → Type 0
RunsInPart A None left_after before after = ⊤
RunsInPart A (Some bytes) left_after before after = IsRunInPart A bytes left_after before after

-- `Settings` comes only for bytes that say no settings, and names their fault
abbrev pub NamesFault : Option (List ℕ) → Result Bool TextFault → Type 0
NamesFault (Some bytes) (Err (Settings name)) = IsRefusedBy (settings_in (settings_part bytes)) (Settings name)
NamesFault left result = ⊤

-- there are too many workers
abbrev pub NamesWorkers : Result Bool TextFault → Type 0
NamesWorkers (Err (Settings name)) = name.now ≡ codes "Workers"
NamesWorkers result = ⊥

-- why one thread did not write all lines: a call of the writer failed, or a growth was refused
abbrev pub IsTellFault : TextFault → Type 0
IsTellFault Write = ⊤
IsTellFault NoMemory = ⊤
IsTellFault other = ⊥

-- a name comes for the settings that some bytes say, where they are refused; where they aren't, for the books
abbrev pub IsNamedFor : Result SettingLists ReadFault → TextFault → Type 0
IsNamedFor (Ok settings) fault = IsPlayFault fault
IsNamedFor (Err fault) named = IsNamed fault named

-- the bytes say settings
abbrev pub SaysSettings : Result SettingLists ReadFault → Type 0
SaysSettings said = (settings : SettingLists) × (said ≡ Ok settings)

-- with workers: an Ok comes only for bytes that say settings, and `Settings` names the fault of those that say none,
-- or how the books don't go with the answers
abbrev pub NamesFaultOfWorkers : {T : Type 0} → Option (List ℕ) → Result T TextFault → Type 0
NamesFaultOfWorkers (Some bytes) (Ok _) = SaysSettings (settings_in (settings_part bytes))
NamesFaultOfWorkers (Some bytes) (Err (Settings name)) = IsNamedFor (settings_in (settings_part bytes)) (Settings name)
NamesFaultOfWorkers left result = ⊤

-- a name that comes for bytes with these settings is that of books that don't go together after their events
abbrev pub IsApartFor : Result SettingLists ReadFault → List ℕ → TextFault → Type 0
IsApartFor (Ok settings) bytes fault =
    IsPlayedApart settings.gateways (events_of settings.devices (lines (event_part bytes))) fault
IsApartFor (Err refused) bytes fault = ⊤

-- with workers: where the bytes say settings, `Settings` names what became of the books after just their events
abbrev pub NamesApart : {T : Type 0} → Option (List ℕ) → Result T TextFault → Type 0
NamesApart (Some bytes) (Err (Settings name)) = IsApartFor (settings_in (settings_part bytes)) bytes (Settings name)
NamesApart left result = ⊤

-- the writer took the lines of a run with workers for these events, at a server with these settings: those that answer its
-- events, and the report of just the books that it was closed with; `refused` says whether one of them begins with `no` or `bad`
pub record IsWorkersRun (settings : SettingLists) (events : List (Event Global)) (before after : Option (List ℕ))
    (refused : Bool) : Type 0 where
  pub entries : List (Entry Global)
  pub totals : List (ℕ × Totals)
  pub books : List Book
  pub played : IsPlayed settings.gateways events entries totals books
  pub written : Appends before after (text_of (replay_lines entries (map gateway_of books)))
  pub told : refused ≡ has_refusal (replay_lines entries (map gateway_of books))

-- all these bytes were read, and say settings; the rest of them is event lines
pub record IsRunByWorkers (bytes : List ℕ) (left_after before after : Option (List ℕ)) (refused : Bool) : Type 0 where
  pub settings : SettingLists
  pub given : settings_in (settings_part bytes) ≡ Ok settings
  pub consumed : Consumes (Some bytes) left_after bytes
  pub run : IsWorkersRun settings (events_of settings.devices (lines (event_part bytes))) before after refused

-- the same where the reader tells what it has left; where it doesn't, of some settings and events
abbrev pub RunsByWorkers : Option (List ℕ) → Option (List ℕ) → Option (List ℕ) → Option (List ℕ) → Bool → Type 0
RunsByWorkers None left_after before after refused =
    (settings : SettingLists) × (events : List (Event Global)) × IsWorkersRun settings events before after refused
RunsByWorkers (Some bytes) left_after before after refused = IsRunByWorkers bytes left_after before after refused

-- the writer took a front of the lines of such a run
pub record IsWorkersRunInPart (settings : SettingLists) (events : List (Event Global)) (before after : Option (List ℕ))
    : Type 0 where
  pub entries : List (Entry Global)
  pub totals : List (ℕ × Totals)
  pub books : List Book
  pub played : IsPlayed settings.gateways events entries totals books
  pub written : WritesFront before after (text_of (replay_lines entries (map gateway_of books)))

-- all these bytes were read, and say settings; the rest of them is event lines
pub record IsRunByWorkersInPart (bytes : List ℕ) (left_after before after : Option (List ℕ)) : Type 0 where
  pub settings : SettingLists
  pub given : settings_in (settings_part bytes) ≡ Ok settings
  pub consumed : Consumes (Some bytes) left_after bytes
  pub run : IsWorkersRunInPart settings (events_of settings.devices (lines (event_part bytes))) before after

-- where a write failed, the same where the reader tells what it has left; where it doesn't, of some settings and events
abbrev pub RunsByWorkersInPart : Option (List ℕ) → Option (List ℕ) → Option (List ℕ) → Option (List ℕ) → Type 0
RunsByWorkersInPart None left_after before after =
    (settings : SettingLists) × (events : List (Event Global)) × IsWorkersRunInPart settings events before after
RunsByWorkersInPart (Some bytes) left_after before after = IsRunByWorkersInPart bytes left_after before after
