use Rattle.std.specs.Prelude.{ℕ, ◌≡◌, ◌≢◌, ◌≤◌, ◌<◌, ◌^◌, true, List, slice_get, All, AllPairs, Option, Some, is_some}
use Rattle.answer_ticket.specs.Job.{Job, frame_for}
use Rattle.server_desk.specs.declared.setting.DeviceSetting.{DeviceSetting}
use Rattle.server_desk.specs.Passing.{pass_answer}
use Rattle.server_desk.specs.Register.{Device, device_with}
use Rattle.server_desk.specs.Taking.{keys_of}
use Rattle.serve_downlinks.specs.Downlinks.{ToSend}
use Rattle.serve_downlinks.specs.Batch.{addr_in}
use Rattle.serve_turns.specs.Control.{Arrival}
use Rattle.serve_turns.specs.Devices.{settings_of}
use Rattle.serve_turns.specs.Life.{Life}
use Rattle.serve_turns.specs.SendLaw.{behind_pass, pass_downlinks}
use Rattle.serve_turns.specs.Turn.{Answered, after_came, after_turn}

-- The downlink counters of what a turn sends, and what a turn leaves of the devices.

-- no two have the same DevAddr, which has 32 bits (LoRaWAN L2 1.0.4, section 6.1.2.1)
pub record HaveOwnAddresses (settings : List DeviceSetting) : Type 0 where
  pub differ : AllPairs (λ s t. s.addr ≢ t.addr) settings
  pub fit : All (λ s. s.addr < 2 ^ 32) settings

-- a downlink to a device, of which `old` has what was known before a turn, and `new` what is known after the pass: its PHYPayload has the
-- device's DevAddr and is made with its keys, and with a counter no less than the next one before, and less than the next one after
pub record IsCounted (old new : List Device) (d : ToSend) : Type 0 where
  pub job : Job
  pub frame : d.frame ≡ frame_for job d.candidate
  pub addressed : addr_in d.frame ≡ Some job.addr
  pub before : ℕ × Device
  pub after : ℕ × Device
  pub was : device_with job.addr old ≡ Some before
  pub is : device_with job.addr new ≡ Some after
  pub keys : job.keys ≡ keys_of after.1.setting
  pub not_below : before.1.down ≤ job.counter
  pub below : job.counter < after.1.down

-- the law: whatever a server knows whose devices have addresses of their own, and whatever comes, each downlink of a turn has a counter
-- no less than the next one that its device had before the turn, and less than the next one that it has after the pass
abbrev pub EachDownlinkIsCounted : Type 0 → Type 0
EachDownlinkIsCounted A =
    (now : ℕ) (came : Option Arrival) (l : Life) → HaveOwnAddresses (settings_of l.world.reg.devices)
    → All (IsCounted l.world.reg.devices (behind_pass A now came l).world.reg.devices) (pass_downlinks A now came l)

-- the same devices later on, set alike but for the counters with which their desk opened, none of them with a lower next downlink counter
pub record GoOn (old new : List Device) : Type 0 where
  pub settings : settings_of new ≡ settings_of old
  pub counters : (place : ℕ) (before after : Device) → slice_get old place ≡ Some before → slice_get new place ≡ Some after
      → before.down ≤ after.down

-- in a turn the devices go on, and where an uplink is due, from the pass on they do
pub record HasDevicesOn (A : Type 0) (now : ℕ) (came : Option Arrival) (r : Answered) (l : Life) : Type 0 where
  pub turn : GoOn l.world.reg.devices (after_turn A now came r l).world.reg.devices
  pub pass : is_some (pass_answer (after_came A now came l).world.reg now) ≡ true
      → GoOn (behind_pass A now came l).world.reg.devices (after_turn A now came r l).world.reg.devices

-- the law: no turn changes which devices there are, nor how one is set but for the counters with which its desk opened, and no next
-- downlink counter falls, in a turn as a whole and from its pass on
abbrev pub DevicesGoOn : Type 0 → Type 0
DevicesGoOn A = (now : ℕ) (came : Option Arrival) (r : Answered) (l : Life) → HasDevicesOn A now came r l
