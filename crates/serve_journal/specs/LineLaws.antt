use Rattle.std.specs.Prelude.{ℕ, ◌≡◌, ◌^◌, ◌<◌, ◌≤◌, true, ⊤, List, length, Option, Some, None}
use Rattle.hex.specs.Hex.{IsBytes}
use Rattle.lora_frame.specs.Ports.{is_application_port}
use Rattle.serve_journal.specs.declared.entry.Entry.{Entry}
use Rattle.serve_journal.specs.declared.entry.Entry.TheVariants.{Gateway, Device, Queue, Taken, Clock, Sent}
use Rattle.serve_journal.specs.EntryText.{entry_text}
use Rattle.serve_journal.specs.EntryWords.{entry_of}
use Rattle.serve_journal.specs.Payload.{Waiting}

-- That a line and what it says are the same.

-- so many bytes
pub record AreBytes (count : ℕ) (bytes : List ℕ) : Type 0 where
  pub sized : length bytes ≡ count
  pub small : IsBytes bytes

-- a payload that a device may be sent
pub record IsPayload (p : Waiting) : Type 0 where
  pub port : is_application_port p.port ≡ true
  pub few : length p.bytes ≤ 242
  pub small : IsBytes p.bytes

abbrev pub IsUp : Option ℕ → Type 0
IsUp None = ⊤
IsUp (Some counter) = counter < 2 ^ 32

-- an entry whose numbers are in their ranges
abbrev pub IsEntry : Entry → Type 0
IsEntry (Gateway id eui cap gap) = (id < 2 ^ 16) × AreBytes 8 eui × (cap < 2 ^ 32) × (gap < 2 ^ 32)
IsEntry (Device addr session up down) = (addr < 2 ^ 32) × AreBytes 4 session × IsUp up × (down ≤ 2 ^ 32)
IsEntry (Queue addr payload) = (addr < 2 ^ 32) × IsPayload payload
IsEntry (Taken addr) = addr < 2 ^ 32
IsEntry (Clock id high floor) = (id < 2 ^ 16) × (high < 2 ^ 64) × (floor < 2 ^ 64)
IsEntry (Sent id start freq_hz rate len) = (id < 2 ^ 16) × (start < 2 ^ 64) × (freq_hz < 2 ^ 32) × (len < 2 ^ 8)

-- the law: the line of an entry is read as that entry
abbrev pub EntriesReadBack : Type 0
EntriesReadBack = (e : Entry) → IsEntry e → entry_of (entry_text e) ≡ Some e

-- the law: a line that is read as an entry is that entry's line, and the entry's numbers are in their ranges
abbrev pub LinesHaveOneSpelling : Type 0
LinesHaveOneSpelling = (line : List ℕ) (e : Entry) → entry_of line ≡ Some e → IsEntry e × (line ≡ entry_text e)
