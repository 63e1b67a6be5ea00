use Rattle.std.specs.Prelude.{ℕ, max, ◌==◌, Bool, ◌&&◌, if◌then◌else◌, List, [], map, find, Option, Some, None}
use Rattle.std.specs.List.{list_any, flat_map}
use Rattle.std.specs.Str.{bytes_eq}
use Rattle.server_desk.specs.declared.setting.DeviceSetting.{DeviceSetting}
use Rattle.serve_journal.specs.Journal.{Node}
use Rattle.serve_journal.specs.Payload.{Waiting}
use Rattle.serve_journal.specs.Session.{session_of}

-- What the devices of a server open with, out of what its journal says of devices.

-- a device's address, and what tells its session from others
abbrev pub DeviceSession : Type 0
DeviceSession = ℕ × List ℕ

abbrev pub session_at : DeviceSetting → DeviceSession
session_at d = (d.addr, session_of d.nwk d.app)

-- the journal speaks of this device, in this session
abbrev pub is_same : DeviceSession → Node → Bool
is_same s n = (n.addr == s.0) && bytes_eq n.session s.1

-- the greater of two uplink counters: none is below any
abbrev pub greater : Option ℕ → Option ℕ → Option ℕ
greater None up = up
greater (Some a) None = Some a
greater (Some a) (Some b) = Some (max a b)

-- a device as it is set, with the greater of both counters where the journal has it in its session
abbrev pub raised_by : DeviceSetting → Option Node → DeviceSetting
raised_by d None = d
raised_by d (Some n) = record d { up = greater d.up n.up; down = max d.down n.down }

abbrev pub raised : List Node → DeviceSetting → DeviceSetting
raised ns d = raised_by d (find (is_same (session_at d)) ns)

-- one of these devices is the journal's, in its session
abbrev pub is_kept : List DeviceSession → Node → Bool
is_kept ss n = list_any (λ s. is_same s n) ss

-- what waits for a device, where one of these is it
abbrev pub waits : List DeviceSession → Node → List (ℕ × Waiting)
waits ss n = if is_kept ss n then map (λ w. (n.addr, w)) n.queue else []

-- what waits, device after device
abbrev pub all_waits : List DeviceSession → List Node → List (ℕ × Waiting)
all_waits ss ns = flat_map (waits ss) ns
