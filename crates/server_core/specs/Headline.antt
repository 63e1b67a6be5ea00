use Rattle.std.specs.Prelude.{ℕ, ◌≡◌, ◌≢◌, ◌≤◌, ◌⊎◌, ◌+◌, ◌-◌, ◌*◌, slice_get, Contains, Some, List}
use Rattle.radio_airtime.specs.DataRate.{number_of, rate_numbered}
use Rattle.radio_airtime.specs.TimeOnAir.{airtime_of}
use Rattle.radio_bands.specs.declared.band.Band.{Band}
use Rattle.radio_bands.specs.Band.{limit_of}
use Rattle.resv_list.specs.declared.reservation.Reservation.{Reservation}
use Rattle.resv_list.specs.OnAir.{on_air}
use Rattle.resv_list.specs.Reservations.{begun}
use Rattle.lora_frame.specs.Reading.{addr_of}
use Rattle.uplink_gather.specs.declared.heard.HeardCopy.{HeardCopy}
use Rattle.uplink_gather.specs.declared.limits.Limits.{Limits}
use Rattle.uplink_gather.specs.Gatherings.{Gathering, numbered}
use Rattle.server_desk.specs.declared.setting.DeviceSetting.{DeviceSetting}
use Rattle.server_desk.specs.Settings.{SettingLists, AreSettings}
use Rattle.server_desk.specs.World.{Gateway}
use Rattle.server_core.specs.Steps.{Step, Run, run}

-- The headline on one page: what an operator may rely on after every list of steps. Moments are in microseconds.

-- the reservation takes RX1 of the copy, as the device listens (LoRaWAN L2 1.0.4, section 3.3.1): RECEIVE_DELAY1, in seconds,
-- after the end of the uplink, on its channel, at its rate less RX1DROffset, DR0 at the lowest
pub record TakesRx1 (device : DeviceSetting) (copy : HeardCopy) (a : Reservation) : Type 0 where
  pub start : a.start ≡ copy.at + device.delay * 1000000
  pub freq_hz : a.freq_hz ≡ copy.freq_hz
  pub rate : a.rate ≡ rate_numbered (number_of copy.rate - device.offset)

-- or RX2 (section 3.3.2): a second later, on the device's own channel and rate
pub record TakesRx2 (device : DeviceSetting) (copy : HeardCopy) (a : Reservation) : Type 0 where
  pub start : a.start ≡ copy.at + (device.delay + 1) * 1000000
  pub freq_hz : a.freq_hz ≡ device.rx2_freq
  pub rate : a.rate ≡ device.rx2_rate

-- the reservation's number is a gathered uplink's, and it takes RX1 or RX2 of a copy of it, on the gateway that heard this copy,
-- as the device of the settings listens whose address is in the uplink's bytes
pub record IsOfItsUplink (settings : SettingLists) (gathered : List Gathering) (g : Gateway) (a : Reservation) : Type 0 where
  pub uplink : Gathering
  pub its_own : numbered a.number gathered ≡ Some uplink
  pub copy : HeardCopy
  pub copied : Contains uplink.copies copy
  pub heard : copy.gateway ≡ g.id
  pub device : DeviceSetting
  pub set : Contains settings.devices device
  pub addr : device.addr ≡ addr_of uplink.bytes
  pub window : TakesRx1 device copy a ⊎ TakesRx2 device copy a

-- g, h are the gateways at places i, j, and a, b reservations at places k, l of their lists
pub record KeepsHeadline (settings : SettingLists) (r : Run) : Type 0 where
  -- of one gateway's reservations each ends, its airtime after its start, before another starts, or starts after that one ends
  pub disjoint : (i k l : ℕ) (g : Gateway) (a b : Reservation) → slice_get r.world.gateways i ≡ Some g
      → slice_get g.state.list k ≡ Some a → slice_get g.state.list l ≡ Some b → k ≢ l
      → (a.start + airtime_of a.rate a.len ≤ b.start) ⊎ (b.start + airtime_of b.rate b.len ≤ a.start)
  -- in each sub-band the airtime that begins within an hour, wherever it opens, keeps the limit
  pub hour : (i : ℕ) (g : Gateway) → slice_get r.world.gateways i ≡ Some g → (band : Band) (t : ℕ)
      → begun band t (t + 3600000000) g.state.list ≤ limit_of band
  -- and so does what is on air within an hour, as a measuring receiver finds it
  pub on_air : (i : ℕ) (g : Gateway) → slice_get r.world.gateways i ≡ Some g → (band : Band) (t : ℕ)
      → on_air band t (t + 3600000000) g.state.list ≤ limit_of band
  -- over all gateways a number stands once at most
  pub once : (i j k l : ℕ) (g h : Gateway) (a b : Reservation) → slice_get r.world.gateways i ≡ Some g
      → slice_get g.state.list k ≡ Some a → slice_get r.world.gateways j ≡ Some h → slice_get h.state.list l ≡ Some b
      → a.number ≡ b.number → (i ≡ j) × (k ≡ l)
  -- it stands for its own uplink
  pub own : (i k : ℕ) (g : Gateway) (a : Reservation) → slice_get r.world.gateways i ≡ Some g
      → slice_get g.state.list k ≡ Some a → IsOfItsUplink settings r.world.reg.gathered.list g a

-- for all settings that are accepted, all limits and every list of steps
abbrev pub EveryRunKeepsHeadline : Type 0
EveryRunKeepsHeadline = (settings : SettingLists) → AreSettings settings.gateways settings.devices → (limits : Limits)
    → (steps : List Step) → KeepsHeadline settings (run settings limits steps)
