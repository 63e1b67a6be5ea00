use Rattle.std.specs.Prelude.{ℕ, ◌≢◌, ◌≤◌, ◌^◌, nat_le, ◌==◌, Bool, not, ◌&&◌, if◌then◌else◌, is_some, IsSome, List, [], ◌∷◌}
use Rattle.std.specs.Prelude.{◌++◌, length, All, AllPairs, Option, Some, None}
use Rattle.std.specs.Option.{option_or}
use Rattle.std.specs.List.{list_any}
use Rattle.radio_bands.specs.Band.{band_of}
use Rattle.gateway_book.specs.Answer.{most_cap}
use Rattle.gateway_book.specs.Disjoint.{most_gap}
use Rattle.gateway_book.specs.Opening.{open_fault}
use Rattle.server_desk.specs.declared.setting.GatewaySetting.{GatewaySetting}
use Rattle.server_desk.specs.declared.setting.DeviceSetting.{DeviceSetting}
use Rattle.server_desk.specs.declared.settings_fault.SettingsFault.{SettingsFault}
use Rattle.server_desk.specs.declared.settings_fault.SettingsFault.TheVariants.{Count, Range, DoubleGateway, NoBand, DoubleDevice}

-- Which settings are accepted, and the first fault of the others (this project's profile).

-- what callers see of settings: the gateways and the devices, as they were given
pub record SettingLists : Type 0 where
  pub gateways : List GatewaySetting
  pub devices : List DeviceSetting

-- a number of a range, both ends in it
abbrev pub IsFrom : ℕ → ℕ → ℕ → Type 0
IsFrom low high n = (low ≤ n) × (n ≤ high)

-- the same as a test
abbrev pub is_from : ℕ → ℕ → ℕ → Bool
is_from low high n = nat_le low n && nat_le n high

-- the numbers of a gateway are in their ranges
pub record IsGatewayInRange (g : GatewaySetting) : Type 0 where
  pub id : IsFrom 1 65535 g.id
  pub cap : IsFrom 1 most_cap g.cap
  pub gap : IsFrom 0 most_gap g.gap

-- the same as a test: its book may be opened
abbrev pub is_gateway_in_range : GatewaySetting → Bool
is_gateway_in_range g = is_from 1 65535 g.id && not (is_some (open_fault (record { cap = g.cap; gap = g.gap })))

-- the numbers of a device are in their ranges: RX1Delay in seconds, RX1DROffset, and the next downlink
-- counter, which is 2^32 where all are spent
pub record IsDeviceInRange (d : DeviceSetting) : Type 0 where
  pub delay : IsFrom 1 15 d.delay
  pub offset : IsFrom 0 5 d.offset
  pub down : IsFrom 0 (2 ^ 32) d.down

-- the same as a test
abbrev pub is_device_in_range : DeviceSetting → Bool
is_device_in_range d = is_from 1 15 d.delay && is_from 0 5 d.offset && is_from 0 (2 ^ 32) d.down

-- the channel of RX2 lies in a sub-band
abbrev pub has_rx2_band : DeviceSetting → Bool
has_rx2_band d = is_some (band_of d.rx2_freq d.rx2_rate)

-- what settings that were accepted keep
pub record AreSettings (gateways : List GatewaySetting) (devices : List DeviceSetting) : Type 0 where
  pub gateway_count : IsFrom 1 64 (length gateways)
  pub device_count : IsFrom 0 1024 (length devices)
  pub gateways_in_range : All IsGatewayInRange gateways
  pub ids_differ : AllPairs (λ g h. g.id ≢ h.id) gateways
  pub devices_in_range : All IsDeviceInRange devices
  pub rx2_in_bands : All (λ d. IsSome (band_of d.rx2_freq d.rx2_rate)) devices
  pub addrs_differ : AllPairs (λ d e. d.addr ≢ e.addr) devices

-- how many gateways and devices there may be
abbrev pub are_counts_in_range : ℕ → ℕ → Bool
are_counts_in_range gateways devices = is_from 1 64 gateways && is_from 0 1024 devices

-- the first fault of a gateway, beside those before it
abbrev pub gateway_fault : List GatewaySetting → GatewaySetting → Option SettingsFault
gateway_fault earlier g =
    if not (is_gateway_in_range g) then Some Range
    else if list_any (λ e. e.id == g.id) earlier then Some DoubleGateway
    else None

-- the first fault of a device, beside those before it
abbrev pub device_fault : List DeviceSetting → DeviceSetting → Option SettingsFault
device_fault earlier d =
    if not (is_device_in_range d) then Some Range
    else if not (has_rx2_band d) then Some NoBand
    else if list_any (λ e. e.addr == d.addr) earlier then Some DoubleDevice
    else None

-- the first fault of some settings, in order, each looked at beside those before it
abbrev pub first_fault : {S : Type 0} → (List S → S → Option SettingsFault) → List S → List S → Option SettingsFault
first_fault fault_of earlier [] = None
first_fault fault_of earlier (s ∷ more) =
    option_or (fault_of earlier s) (first_fault fault_of (earlier ++ s ∷ []) more)

-- the first fault of all: the counts first, then the gateways, then the devices
unfoldable pub settings_fault : List GatewaySetting → List DeviceSetting → Option SettingsFault
settings_fault gateways devices =
    if not (are_counts_in_range (length gateways) (length devices)) then Some Count
    else option_or (first_fault gateway_fault [] gateways) (first_fault device_fault [] devices)
