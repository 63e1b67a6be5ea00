use Rattle.std.specs.Prelude.{ℕ, ◌==◌, nat_lt, Bool, if◌then◌else◌, List, [], ◌∷◌, length, slice_index, Option, Some, None}
use Rattle.std.specs.List.{list_any}
use Rattle.std.specs.Str.Lines.{lines}
use Rattle.text_lines.specs.Words.{words_of, is_passed_over}
use Rattle.server_desk.specs.declared.setting.DeviceSetting.{DeviceSetting}
use Rattle.server_core.specs.declared.event.Event.{Event}
use Rattle.server_core.specs.declared.event.Event.TheVariants.{Bad}
use Rattle.run_lines.specs.RunEvents.{line_event}
use Rattle.run_lines.specs.declared.datagram.TheConstants.{DATAGRAM_ROOM}

-- What a datagram of `airbook listen` asks for (docs/FORMATS.md, "airbook listen").

-- a word that asks for an uplink to be made, as only a run makes them
abbrev pub asks_for_uplink : List ℕ → Bool
asks_for_uplink word = slice_index word 0 == 64

-- the line of a datagram asks for what it asks for in a run, but for such words
abbrev pub sent_event : {A : Type 0} → List DeviceSetting → ℕ → List ℕ → Option (Event A)
sent_event devices number line =
    if is_passed_over line then None
    else (if list_any asks_for_uplink (words_of line) then Some (Bad number) else line_event devices number line)

-- a datagram is one line; where it is none it is passed over, and where it is more it is malformed
abbrev pub one_event : {A : Type 0} → List DeviceSetting → ℕ → List (List ℕ) → Option (Event A)
one_event devices number [] = None
one_event devices number (line ∷ []) = sent_event devices number line
one_event devices number (line ∷ other ∷ more) = Some (Bad number)

-- so is one that fills the room for it, and may have been cut off
abbrev pub datagram_event : {A : Type 0} → List DeviceSetting → ℕ → List ℕ → Option (Event A)
datagram_event devices number datagram =
    if nat_lt (length datagram) DATAGRAM_ROOM then one_event devices number (lines datagram) else Some (Bad number)
