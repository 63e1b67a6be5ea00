use Rattle.std.specs.Prelude.{ℕ, ◌^◌, pos, nat_lt, if◌then◌else◌, List, codes, Option, Some, None, Result, Ok, Err}
use Rattle.std.specs.Option.{ok_or}
use Rattle.std.specs.Int.{w32, from_be_bytes}
use Rattle.hex.specs.Hex.{decode_sized}
use Rattle.toml.specs.Data.{Data, string, integer, Members, get_member}
use Rattle.radio_airtime.specs.declared.data_rate.DataRate.{DataRate}
use Rattle.radio_airtime.specs.declared.data_rate.DataRate.TheVariants.{Dr0}
use Rattle.radio_airtime.specs.DataRate.{known_rate}
use Rattle.settings_text.specs.declared.settings_fault.ReadFault.{ReadFault}
use Rattle.settings_text.specs.declared.settings_fault.ReadFault.TheVariants.{Missing, Kind}

-- What the keys of a gateway and of a device say in the settings (docs/FORMATS.md, "Settings").

-- the next step, where this one found no fault
infixl 10 ◌>>=◌
abbrev pub ◌>>=◌ : {T U : Type 0} → Result T ReadFault → (T → Result U ReadFault) → Result U ReadFault
Ok found >>= next = next found
Err fault >>= next = Err fault

-- a value that is not what its key asks for
abbrev pub or_kind : {T E : Type 0} → Result T E → Result T ReadFault
or_kind (Ok found) = Ok found
or_kind (Err other) = Err Kind

-- a whole number below the limit
abbrev pub whole_below : ℕ → Data → Result ℕ ReadFault
whole_below limit (integer (pos n)) = if nat_lt n limit then Ok n else Err Kind
whole_below limit _ = Err Kind

-- so many bytes, as a text of two hexadecimal digits for each, and of no more
abbrev pub bytes_in : ℕ → Data → Result (List ℕ) ReadFault
bytes_in count (string text) = or_kind (decode_sized text count)
bytes_in count _ = Err Kind

-- an address, as a text of 8 hexadecimal digits, the most significant first
abbrev pub addr_in : Data → Result ℕ ReadFault
addr_in value = do
  bytes ← bytes_in 4 value
  Ok (from_be_bytes w32 bytes)

-- a data rate, by its number
abbrev pub rate_in : Data → Result DataRate ReadFault
rate_in value = do
  number ← whole_below (2 ^ 8) value
  ok_or (known_rate number) Kind

-- a counter
abbrev pub counter_in : Data → Result (Option ℕ) ReadFault
counter_in value = do
  counter ← whole_below (2 ^ 32) value
  Ok (Some counter)

-- what a key says that has to be there
abbrev pub required : {T : Type 0} → List ℕ → (Data → Result T ReadFault) → Members → Result T ReadFault
required key said table = do
  value ← ok_or (get_member key table) Missing
  said value

-- the default, or what the value says
abbrev pub said_or : {T : Type 0} → T → (Data → Result T ReadFault) → Option Data → Result T ReadFault
said_or default said None = Ok default
said_or default said (Some value) = said value

-- what a key says that may be left out
abbrev pub optional : {T : Type 0} → List ℕ → T → (Data → Result T ReadFault) → Members → Result T ReadFault
optional key default said table = said_or default said (get_member key table)

-- a gateway's number
abbrev pub id_of : Members → Result ℕ ReadFault
id_of gateway = required (codes "id") (whole_below (2 ^ 16)) gateway

-- how many transmissions its book may keep
abbrev pub cap_of : Members → Result ℕ ReadFault
cap_of gateway = optional (codes "cap") 4096 (whole_below (2 ^ 32)) gateway

-- how long it needs between two transmissions, in microseconds
abbrev pub gap_of : Members → Result ℕ ReadFault
gap_of gateway = optional (codes "gap") 0 (whole_below (2 ^ 32)) gateway

-- a device's DevAddr
abbrev pub addr_of : Members → Result ℕ ReadFault
addr_of device = required (codes "addr") addr_in device

-- its NwkSKey
abbrev pub nwk_of : Members → Result (List ℕ) ReadFault
nwk_of device = required (codes "nwkskey") (bytes_in 16) device

-- its AppSKey
abbrev pub app_of : Members → Result (List ℕ) ReadFault
app_of device = required (codes "appskey") (bytes_in 16) device

-- RX1Delay in seconds
abbrev pub delay_of : Members → Result ℕ ReadFault
delay_of device = optional (codes "delay") 1 (whole_below (2 ^ 8)) device

-- RX1DROffset
abbrev pub offset_of : Members → Result ℕ ReadFault
offset_of device = optional (codes "offset") 0 (whole_below (2 ^ 8)) device

-- the frequency of RX2 in Hz
abbrev pub rx2_freq_of : Members → Result ℕ ReadFault
rx2_freq_of device = optional (codes "rx2_freq") 869525000 (whole_below (2 ^ 32)) device

-- the data rate of RX2
abbrev pub rx2_rate_of : Members → Result DataRate ReadFault
rx2_rate_of device = optional (codes "rx2_dr") Dr0 rate_in device

-- the last uplink counter, if there is one
abbrev pub up_of : Members → Result (Option ℕ) ReadFault
up_of device = optional (codes "up") None counter_in device

-- the next downlink counter
abbrev pub down_of : Members → Result ℕ ReadFault
down_of device = optional (codes "down") 0 (whole_below (2 ^ 64)) device
