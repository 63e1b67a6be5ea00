use Rattle.std.specs.Prelude.{ℕ, ◌+◌, ◌^◌, nat_lt, ◌==◌, Bool, false, not, ◌||◌, if◌then◌else◌, is_some, List, [], ◌∷◌, ◌++◌}
use Rattle.std.specs.Prelude.{length, slice_set, Option, Some, None, Result, Ok, Err}
use Rattle.std.specs.Option.{option_map_or}
use Rattle.radio_bands.specs.Band.{band_of}
use Rattle.lora_frame.specs.declared.reading.Uplink.{Uplink}
use Rattle.lora_frame.specs.declared.reading.FrameFault.{FrameFault}
use Rattle.lora_frame.specs.Reading.{uplink_of, uplink_record, has_mic}
use Rattle.lora_frame.specs.Counter.{inferred_counter}
use Rattle.rx_windows.specs.Windows.{rate_numbered}
use Rattle.uplink_gather.specs.declared.heard.HeardCopy.{HeardCopy}
use Rattle.uplink_gather.specs.declared.fault.HearFault.{HearFault}
use Rattle.uplink_gather.specs.declared.fault.HearFault.TheVariants as gathering
use Rattle.uplink_gather.specs.declared.answers.Place.{Place}
use Rattle.uplink_gather.specs.declared.answers.Place.TheVariants.{Joins, Opens}
use Rattle.uplink_gather.specs.Gatherings.{copies_of}
use Rattle.uplink_gather.specs.Hearing.{place_of, is_crowded, hear_step}
use Rattle.server_desk.specs.declared.heard.Heard1.{Heard1}
use Rattle.server_desk.specs.declared.heard.DeskHeard.{DeskHeard}
use Rattle.server_desk.specs.declared.heard.DeskHeard.TheVariants.{Opened, Joined}
use Rattle.server_desk.specs.declared.faults.DeskFault.{DeskFault}
use Rattle.server_desk.specs.declared.faults.DeskFault.TheVariants.{Frame, UnknownGateway, NoRate, NoBand, Moment, SameGateway}
use Rattle.server_desk.specs.declared.faults.DeskFault.TheVariants.{TooManyCopies, Late, UnknownDevice, BadMic, Crowded, NoMemory}
use Rattle.server_desk.specs.Register.{is_among, Device, Asked, Register, device_with}

-- A copy of an uplink is heard. The order of the faults and the last moment are this project's profile.

-- the last moment that is accepted, in µs
abbrev pub last_moment : ℕ
last_moment = 2 ^ 60

-- what is wrong with a copy's own numbers
abbrev pub copy_fault : List ℕ → Heard1 → ℕ → Option DeskFault
copy_fault ids heard arrived =
    if not (is_among ids heard.gateway) then Some UnknownGateway
    else if nat_lt 6 heard.rate then Some NoRate
    else if not (is_some (band_of heard.freq_hz (rate_numbered heard.rate))) then Some NoBand
    else if nat_lt last_moment heard.at || nat_lt last_moment arrived then Some Moment
    else None

-- the copy as it is gathered
abbrev pub copy_of : Heard1 → HeardCopy
copy_of heard = record {
  gateway = heard.gateway;
  at = heard.at;
  freq_hz = heard.freq_hz;
  rate = rate_numbered heard.rate;
  snr = heard.snr;
  rssi = heard.rssi;
}

-- the gathering's fault, as the server names it
abbrev pub named_fault : HearFault → DeskFault
named_fault gathering.SameGateway = SameGateway
named_fault gathering.TooManyCopies = TooManyCopies
named_fault gathering.Late = Late
named_fault gathering.Crowded = Crowded
named_fault gathering.NoMemory = NoMemory

-- an uplink that opens a gathering: its device, with the device's place, and its whole counter
pub record Opening : Type 0 where
  pub place : ℕ
  pub device : Device
  pub counter : ℕ

-- what is to be done with a copy: it is refused, joins the gathering with this number, or opens one
pub data Decision : Type 0 where
  Refuse : DeskFault → Decision
  Join : ℕ → Decision
  Open : Opening → Decision

-- an uplink whose MIC is right opens a gathering where one more may be opened
abbrev pub decide_room : Bool → Opening → Decision
decide_room crowded opening = if crowded then Refuse Crowded else Open opening

-- the MIC is looked at under the counter that may come next; where there is none it is wrong
abbrev pub decide_mic : Bool → List ℕ → ℕ × Device → Option ℕ → Decision
decide_mic crowded bytes found None = Refuse BadMic
decide_mic crowded bytes found (Some counter) =
    if has_mic bytes found.1.setting.nwk counter
    then decide_room crowded (record { place = found.0; device = found.1; counter = counter })
    else Refuse BadMic

-- what a copy that opens a gathering comes to, by the device with its address, if there is one
abbrev pub decide_device : Bool → List ℕ → Uplink → Option (ℕ × Device) → Decision
decide_device crowded bytes uplink None = Refuse UnknownDevice
decide_device crowded bytes uplink (Some found) =
    decide_mic crowded bytes found (inferred_counter found.1.up uplink.low)

abbrev pub decide_place : Register → List ℕ → Uplink → Result Place HearFault → Decision
decide_place reg bytes uplink (Err fault) = Refuse (named_fault fault)
decide_place reg bytes uplink (Ok (Joins n)) = Join n
decide_place reg bytes uplink (Ok Opens) =
    decide_device (is_crowded reg.gathered) bytes uplink (device_with uplink.addr reg.devices)

abbrev pub decide_copy : Register → List ℕ → Heard1 → ℕ → Uplink → Option DeskFault → Decision
decide_copy reg bytes heard arrived uplink (Some fault) = Refuse fault
decide_copy reg bytes heard arrived uplink None =
    decide_place reg bytes uplink (place_of reg.gathered bytes heard.gateway arrived)

abbrev pub decide_frame : List ℕ → Register → List ℕ → Heard1 → ℕ → Result Uplink FrameFault → Decision
decide_frame ids reg bytes heard arrived (Err fault) = Refuse (Frame fault)
decide_frame ids reg bytes heard arrived (Ok uplink) =
    decide_copy reg bytes heard arrived uplink (copy_fault ids heard arrived)

-- first the frame, then the copy's numbers, then its gathering, and where it would open one its device, its MIC and
-- the room for it; the gateways have these ids
unfoldable pub decide : List ℕ → Register → List ℕ → Heard1 → ℕ → Decision
decide ids reg bytes heard arrived = decide_frame ids reg bytes heard arrived (uplink_of bytes)

-- whether the device's last uplink counter is this one
abbrev pub is_last : Device → ℕ → Bool
is_last device counter = option_map_or (λ last. last == counter) device.up false

-- the answer to a copy, memory aside
abbrev pub answer_to : Decision → Register → Result DeskHeard DeskFault
answer_to (Refuse fault) reg = Err fault
answer_to (Join n) reg = Ok (Joined n (length (copies_of n reg.gathered.list) + 1))
answer_to (Open o) reg = Ok (Opened (length reg.gathered.list + 1) (is_last o.device o.counter))

-- what an uplink says, as it is kept
abbrev pub asked_by : Opening → List ℕ → Asked
asked_by o bytes = record {
  device = o.place;
  confirmed = (uplink_record bytes).confirmed;
  adr_ack_req = (uplink_record bytes).adr_ack_req;
}

-- what the server knows after a copy: one that opens a gathering stores its counter as its device's last; one that is
-- refused changes nothing
abbrev pub after_hearing : Decision → Register → List ℕ → HeardCopy → ℕ → Register
after_hearing (Refuse fault) reg bytes copy arrived = reg
after_hearing (Join n) reg bytes copy arrived = record reg { gathered = hear_step reg.gathered bytes copy arrived }
after_hearing (Open o) reg bytes copy arrived =
    record {
      devices = slice_set reg.devices o.place (record o.device { up = Some o.counter });
      gathered = hear_step reg.gathered bytes copy arrived;
      asked = reg.asked ++ asked_by o bytes ∷ [];
    }

-- a copy that is heard: what the server knows then, memory aside
abbrev pub register_after : List ℕ → Register → List ℕ → Heard1 → ℕ → Register
register_after ids reg bytes heard arrived =
    after_hearing (decide ids reg bytes heard arrived) reg bytes (copy_of heard) arrived
