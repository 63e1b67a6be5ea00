use Rattle.std.specs.Prelude.{ℕ, ◌≡◌, List, map}
use Rattle.gateway_book.specs.Book.{Book}
use Rattle.server_desk.specs.Settings.{SettingLists}
use Rattle.serve_journal.specs.Journal.{Journal}
use Rattle.serve_journal.specs.Payload.{Waiting}
use Rattle.serve_settings.specs.declared.forwarder.Forwarder.{Forwarder}
use Rattle.serve_opening.specs.declared.note.Note.{Note}
use Rattle.serve_opening.specs.declared.opening.Opening.{Opening}
use Rattle.serve_opening.specs.Devices.{DeviceSession, session_at, raised, all_waits}
use Rattle.serve_opening.specs.Gateways.{AreOpened, highs, setting_of, unmatched}
use Rattle.serve_opening.specs.Notes.{notes_of}

-- What a server opens with, as a whole.

pub record Opened : Type 0 where
  pub settings : SettingLists
  pub books : List Book
  pub highs : List ℕ
  pub sessions : List DeviceSession
  pub waiting : List (ℕ × Waiting)
  pub notes : List Note

-- what an opening is seen as
abbrev pub shown : {A : Type 0} {C : _} → Opening A C → Opened
shown o =
    record {
      settings = o.settings;
      books = o.books.items;
      highs = o.highs.items;
      sessions = o.sessions.items;
      waiting = o.waiting.items;
      notes = o.notes.items;
    }

-- it is what these settings, the packet forwarders of their gateways, and what the journal says make
pub record IsOpening (s : SettingLists) (fs : List Forwarder) (j : Journal) (o : Opened) : Type 0 where
  pub books : AreOpened s.gateways fs j.gateways o.books
  pub gateways : o.settings.gateways ≡ map setting_of o.books
  pub devices : o.settings.devices ≡ map (raised j.devices) s.devices
  pub clocks : o.highs ≡ highs s.gateways fs j.gateways
  pub sessions : o.sessions ≡ map session_at s.devices
  pub waiting : o.waiting ≡ all_waits o.sessions j.devices
  pub notes : o.notes ≡ notes_of s.gateways o.settings.gateways (unmatched s.gateways fs j.gateways) o.sessions j.devices
