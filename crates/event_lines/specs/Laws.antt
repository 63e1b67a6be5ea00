use Rattle.std.specs.Prelude.{ℕ, ℤ, pos, negsuc, ◌≡◌, ◌≤◌, ◌<◌, ◌^◌, List, length, Some}
use Rattle.hex.specs.Hex.{IsBytes}
use Rattle.server_core.specs.declared.event.Event.{Event}
use Rattle.server_core.specs.declared.event.Event.TheVariants.{Queue, Hear, Pass, Tick, Cancel, Bad}
use Rattle.server_desk.specs.declared.heard.Heard1.{Heard1}
use Rattle.server_desk.specs.declared.setting.DeviceSetting.{DeviceSetting}
use Rattle.run_lines.specs.RunEvents.{line_event}
use Rattle.event_lines.specs.EventText.{event_text}

-- That what is written of events is read again.

-- a number of 16 bits with a sign
abbrev pub IsSigned : ℤ → Type 0
IsSigned (pos n) = n < 32768
IsSigned (negsuc n) = n < 32768

-- a copy of an uplink whose numbers are of their types
pub record IsCopy (heard : Heard1) : Type 0 where
  pub gateway : heard.gateway < 2 ^ 16
  pub at : heard.at < 2 ^ 64
  pub freq_hz : heard.freq_hz < 2 ^ 32
  pub rate : heard.rate < 2 ^ 8
  pub snr : IsSigned heard.snr
  pub rssi : IsSigned heard.rssi

-- an event whose numbers are of their types, and which is no line that can't be read
abbrev pub IsEvent : {A : Type 0} → Event A → Type 0
IsEvent (Queue addr port payload) = (addr < 2 ^ 32) × (port < 2 ^ 8) × IsBytes payload
IsEvent (Hear bytes heard arrived) = IsCopy heard × (arrived < 2 ^ 64) × IsBytes bytes
IsEvent (Pass now) = now < 2 ^ 64
IsEvent (Tick gateway now) = (gateway < 2 ^ 16) × (now < 2 ^ 64)
IsEvent (Cancel number) = number < 2 ^ 64
IsEvent (Bad line) = ⊥

-- how many bytes a line may have
abbrev pub longest : ℕ
longest = 1024

-- the law: the line of an event is read as that event, whatever the devices of the settings and the number of the line are
abbrev pub EventsReadBack : Type 0 → Type 0
EventsReadBack A = (devices : List DeviceSetting) (number : ℕ) (event : Event A) → IsEvent event
    → length (event_text event) ≤ longest → line_event devices number (event_text event) ≡ Some event
