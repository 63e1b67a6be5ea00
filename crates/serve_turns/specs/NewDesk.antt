use Rattle.std.specs.Prelude.{ℕ, ◌≡◌, ◌-◌, ◌^◌, Bool, not, ◌&&◌, if◌then◌else◌, is_none, is_some, nat_le, List, map, Option, Some, None}
use Rattle.std.specs.List.{flat_map, list_any}
use Rattle.std.specs.Option.{option_map}
use Rattle.gateway_book.specs.Book.{Book}
use Rattle.forwarder_sessions.specs.Sessions.{Known, renumbered}
use Rattle.uplink_gather.specs.declared.limits.Limits.{Limits}
use Rattle.server_core.specs.Entries.{kept_gateway}
use Rattle.server_core.specs.Promise.{setting_of}
use Rattle.server_desk.specs.declared.setting.DeviceSetting.{DeviceSetting}
use Rattle.server_desk.specs.declared.setting.GatewaySetting.{GatewaySetting}
use Rattle.server_desk.specs.Passing.{pass_answer}
use Rattle.server_desk.specs.declared.device.Counters.{Counters}
use Rattle.server_desk.specs.Register.{Device, counters_of, device_with}
use Rattle.server_desk.specs.Settings.{SettingLists, settings_fault}
use Rattle.server_desk.specs.World.{World, opening}
use Rattle.serve_journal.specs.Payload.{Waiting}
use Rattle.serve_renewal.specs.State.{waiting_of}
use Rattle.serve_turns.specs.declared.answerer.Answerer.{Answerer}
use Rattle.serve_turns.specs.Life.{Life, IsAlive, IsReady}
use Rattle.serve_turns.specs.Queues.{after_queues}

-- A server's desk keeps each uplink that it ever gathered. So that memory stays flat it is made anew, of the counters and of what
-- waits, on the books as they are. Numbers of uplinks begin at 1 again.

-- how many uplinks a desk gathers at a time, and in all, and how many copies of one: a PULL_RESP's token has 16 bits, so each
-- number of a desk has its own
abbrev pub serve_limits : Limits
serve_limits = record { max_open = 4096; max_ever = 65535; max_copies = 64 }

-- after so many uplinks it is to be made anew
abbrev pub most_numbers : ℕ
most_numbers = 32768

-- one with that number, or a later one, was gathered. Whoever tells the first copy of an uplink joins it, so the greatest number that
-- was joined is that of the last uplink
abbrev pub is_spent : List Known → Bool
is_spent known = list_any (λ k. nat_le most_numbers k.joined) known

-- an uplink is still to be answered: one will be due. Moments of a server are 2^60 at most
abbrev pub has_open : World → Bool
has_open w = is_some (pass_answer w.reg (2 ^ 64 - 1))

-- how a device is set that opens with the counters which it has now
abbrev pub set_now : Device → DeviceSetting
set_now d = record d.setting { up = d.up; down = d.down }

abbrev pub settings_now : World → SettingLists
settings_now w = record { gateways = map setting_of w.gateways; devices = map set_now w.reg.devices }

-- what waits, each payload with its device's address
abbrev pub waits_for : Device → List (ℕ × Waiting)
waits_for d = map (λ q. (d.setting.addr, q)) (flat_map waiting_of d.queue)

abbrev pub all_waiting : List Device → List (ℕ × Waiting)
all_waiting devices = flat_map waits_for devices

-- the world of a desk that has heard nothing, on the gateways' books
abbrev pub reopened : World → World
reopened w = record (opening (settings_now w) serve_limits) { gateways = map kept_gateway w.gateways }

-- a server may open with these settings
abbrev pub are_accepted : SettingLists → Bool
are_accepted s = is_none (settings_fault s.gateways s.devices)

abbrev pub accepted : SettingLists → Option SettingLists
accepted s = if are_accepted s then Some s else None

-- with a new desk, in which all payloads wait that waited
abbrev pub with_new_desk : (A : Type 0) → Life → Life
with_new_desk A l =
    after_queues A (all_waiting l.world.reg.devices) (record l { world = reopened l.world; known = map renumbered l.known })

-- it is made once no uplink is left to be answered
abbrev pub is_desk_due : Life → Bool
is_desk_due l = is_spent l.known && not (has_open l.world) && are_accepted (settings_now l.world)

abbrev pub after_desk : (A : Type 0) → Life → Life
after_desk A l = if is_desk_due l then with_new_desk A l else l

-- the same by what a server tells of a device with this address, and of a gateway's book

abbrev pub with_counters : DeviceSetting → Option Counters → DeviceSetting
with_counters s None = s
with_counters s (Some counters) = record s { up = counters.up; down = counters.down }

abbrev pub set_with : List Device → DeviceSetting → DeviceSetting
set_with devices s = with_counters s (option_map (λ found. counters_of found.1) (device_with s.addr devices))

abbrev pub set_as_book : Book → GatewaySetting
set_as_book b = record { id = b.id; cap = b.rules.cap; gap = b.rules.gap }

-- a desk was made anew with these settings
pub record HasNewDesk {S A R : Type 0} {C : _} (settings : SettingLists) (old new : Answerer S A R C) : Type 0 where
  pub ready : IsReady new
  pub lives : (l : Life) → IsAlive l old → settings ≡ settings_now l.world → IsAlive (with_new_desk A l) new
