use Rattle.std.specs.Prelude.{ℕ, suc, ◌==◌, Bool, if◌then◌else◌, List, [], ◌∷◌, Option, Some, None}
use Rattle.std.specs.List.{list_any}
use Rattle.std.specs.Option.{option_map}
use Rattle.uplink_gather.specs.Gatherings.{Gatherings}
use Rattle.answer_ticket.specs.Job.{Payload}
use Rattle.server_desk.specs.declared.device.Counters.{Counters}
use Rattle.server_desk.specs.declared.setting.DeviceSetting.{DeviceSetting}
pub use Rattle.server_desk.specs.declared.answers.Asked.{Asked}

-- What the server knows of devices and uplinks.

-- whether a gateway's id is one of these
abbrev pub is_among : List ℕ → ℕ → Bool
is_among ids gateway = list_any (λ id. id == gateway) ids

-- a device: how it is set, the payloads that wait for it, its last uplink counter, and its next downlink counter, which
-- is 2^32 where all were given
pub record Device : Type 0 where
  pub setting : DeviceSetting
  pub queue : List Payload
  pub up : Option ℕ
  pub down : ℕ

-- the devices, the gatherings of uplinks, and what each uplink says, by its number
pub record Register : Type 0 where
  pub devices : List Device
  pub gathered : Gatherings
  pub asked : List Asked

abbrev pub next_place : {X : Type 0} → ℕ × X → ℕ × X
next_place found = (suc found.0, found.1)

-- the first member that passes a test, with its place, counted from 0
abbrev pub first_at : {X : Type 0} → (X → Bool) → List X → Option (ℕ × X)
first_at test [] = None
first_at test (x ∷ xs) = if test x then Some (0, x) else option_map next_place (first_at test xs)

-- the device with this address, with its place
abbrev pub device_with : ℕ → List Device → Option (ℕ × Device)
device_with addr devices = first_at (λ d. d.setting.addr == addr) devices

-- its counters
abbrev pub counters_of : Device → Counters
counters_of d = record { up = d.up; down = d.down }

-- what waits for a device, if there is one
abbrev pub waiting_for : Option (ℕ × Device) → List Payload
waiting_for None = []
waiting_for (Some found) = found.1.queue

-- a device of which nothing was heard yet
abbrev pub opened_device : DeviceSetting → Device
opened_device setting = record { setting = setting; queue = []; up = setting.up; down = setting.down }
