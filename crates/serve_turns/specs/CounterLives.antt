use Rattle.std.specs.Prelude.{ℕ, ◌≡◌, ◌≤◌, ◌<◌, ◌==◌, Bool, true, false, ◌&&◌, if◌then◌else◌, max, ⊤, List, [], ◌∷◌, Contains, Option, Some, None}
use Rattle.std.specs.List.{list_any}
use Rattle.std.specs.Option.{option_map_or}
use Rattle.answer_ticket.specs.Job.{Job, frame_for}
use Rattle.server_desk.specs.Register.{Device, device_with}
use Rattle.server_desk.specs.Taking.{keys_of}
use Rattle.serve_downlinks.specs.Batch.{addr_in}
use Rattle.serve_downlinks.specs.Downlinks.{ToSend}
use Rattle.serve_turns.specs.CounterLaw.{HaveOwnAddresses}
use Rattle.serve_turns.specs.Devices.{settings_of}
use Rattle.serve_turns.specs.Life.{Life}
use Rattle.serve_turns.specs.LifeLaw.{ServedLife, Turn, behind, turn_downlinks}
use Rattle.serve_turns.specs.SendLaw.{behind_pass}

-- Which downlink counters of a device get into the journal over all lives of a server.

-- the next downlink counter of the device with an address, and 0 where there is none
abbrev pub down_at : ℕ → List Device → ℕ
down_at addr devices = option_map_or (λ found. found.1.down) (device_with addr devices) 0

abbrev pub is_for : ℕ → Option ℕ → Bool
is_for addr None = false
is_for addr (Some own) = own == addr

-- whether a downlink goes to that device, and gets into the journal
abbrev pub is_noted_for : ℕ → (ToSend → Bool) → ToSend → Bool
is_noted_for addr is_kept d = is_kept d && is_for addr (addr_in d.frame)

-- the greatest next counter of the device that was put into the journal by the end of a turn: with a downlink goes the next one then
abbrev pub told_behind : (A : Type 0) → ℕ → Turn → Life → ℕ → ℕ
told_behind A addr t l told =
    if list_any (is_noted_for addr t.is_kept) (turn_downlinks A t l)
    then max told (down_at addr (behind_pass A t.now t.came l).world.reg.devices)
    else told

-- and by the end of some turns
abbrev pub told_after : (A : Type 0) → ℕ → List Turn → Life → ℕ → ℕ
told_after A addr [] l told = told
told_after A addr (t ∷ ts) l told = told_after A addr ts (behind A t l) (told_behind A addr t l told)

-- a downlink to the device with an address, one of these: made with its keys, and with a counter no less than one number, and less than
-- another
pub record HasCounterWithin (devices : List Device) (addr low high : ℕ) (d : ToSend) : Type 0 where
  pub job : Job
  pub frame : d.frame ≡ frame_for job d.candidate
  pub own : job.addr ≡ addr
  pub found : ℕ × Device
  pub there : device_with addr devices ≡ Some found
  pub keys : job.keys ≡ keys_of found.1.setting
  pub not_below : low ≤ job.counter
  pub below : job.counter < high

-- each downlink to the device that gets into the journal in a turn has a counter no less than any next counter put there before, and less
-- than the one put there with it
abbrev pub AreFresh : (A : Type 0) → ℕ → Turn → Life → ℕ → Type 0
AreFresh A addr t l told =
    (d : ToSend) → Contains (turn_downlinks A t l) d → is_noted_for addr t.is_kept d ≡ true
    → HasCounterWithin (behind_pass A t.now t.came l).world.reg.devices addr told (told_behind A addr t l told) d

abbrev pub TurnsAreFresh : (A : Type 0) → ℕ → List Turn → Life → ℕ → Type 0
TurnsAreFresh A addr [] l told = ⊤
TurnsAreFresh A addr (t ∷ ts) l told =
    AreFresh A addr t l told × TurnsAreFresh A addr ts (behind A t l) (told_behind A addr t l told)

-- so it is in each life that opens with devices which have addresses of their own, and with no lower next counter of this one than was
-- put there before
abbrev pub LivesAreFresh : (A : Type 0) → ℕ → List ServedLife → ℕ → Type 0
LivesAreFresh A addr [] told = ⊤
LivesAreFresh A addr (life ∷ lives) told =
    (HaveOwnAddresses (settings_of life.opened.world.reg.devices) → told ≤ down_at addr life.opened.world.reg.devices
    → TurnsAreFresh A addr life.turns life.opened told)
    × LivesAreFresh A addr lives (told_after A addr life.turns life.opened told)

-- the law: over every list of lives, each of any turns, whatever comes and whatever the world around answers in them, and whichever of
-- the downlinks get into the journal: in the lives that open so, downlinks of two turns that get there never have the same counter of the
-- same device
abbrev pub EveryServedLifeRaisesCounters : Type 0 → Type 0
EveryServedLifeRaisesCounters A = (addr : ℕ) (lives : List ServedLife) → LivesAreFresh A addr lives 0
