use Rattle.std.specs.Prelude.{ℕ, ◌^◌, pos, nat_lt, nat_le, if◌then◌else◌, List, codes, Option, Some, None, Result, Ok, Err}
use Rattle.std.specs.Option.{ok_or}
use Rattle.std.specs.Net.Reader.{whole_value, read_ipv4}
use Rattle.hex.specs.Hex.{decode_sized}
use Rattle.toml.specs.Data.{Data, string, integer, Members, get_member}
use Rattle.serve_settings.specs.declared.forwarder.Forwarder.{Forwarder}
use Rattle.serve_settings.specs.declared.serve_fault.ServeFault.{ServeFault}
use Rattle.serve_settings.specs.declared.serve_fault.ServeFault.TheVariants.{Missing, Kind, Range}

-- What the keys of a gateway say of its packet forwarder (docs/FORMATS.md, "Settings").

-- the next step, where this one found no fault
infixl 10 ◌>>=◌
abbrev pub ◌>>=◌ : {T U : Type 0} → Result T ServeFault → (T → Result U ServeFault) → Result U ServeFault
Ok found >>= next = next found
Err fault >>= next = Err fault

-- a value that is not what its key asks for
abbrev pub or_kind : {T E : Type 0} → Result T E → Result T ServeFault
or_kind (Ok found) = Ok found
or_kind (Err other) = Err Kind

-- what a key says that has to be there
abbrev pub said : {T : Type 0} → (Data → Result T ServeFault) → Option Data → Result T ServeFault
said of None = Err Missing
said of (Some value) = of value

-- the default, or what the value says
abbrev pub said_or : {T : Type 0} → T → (Data → Result T ServeFault) → Option Data → Result T ServeFault
said_or default of None = Ok default
said_or default of (Some value) = of value

-- an EUI, as a text of 16 hexadecimal digits
abbrev pub eui_in : Data → Result (List ℕ) ServeFault
eui_in (string text) = or_kind (decode_sized text 8)
eui_in _ = Err Kind

-- an IPv4 address, as a text of four octets with dots between them
abbrev pub address_in : Data → Result (List ℕ) ServeFault
address_in (string text) = ok_or (whole_value (read_ipv4 text)) Kind
address_in _ = Err Kind

-- the same where any address is left open otherwise
abbrev pub some_address_in : Data → Result (Option (List ℕ)) ServeFault
some_address_in value = do
  address ← address_in value
  Ok (Some address)

-- a number of a key's type, below the limit, that is at most so much
abbrev pub number_in : ℕ → ℕ → Data → Result ℕ ServeFault
number_in limit most (integer (pos n)) = if nat_lt n limit then (if nat_le n most then Ok n else Err Range) else Err Kind
number_in limit most _ = Err Kind

-- the gateway's EUI
abbrev pub eui_of : Members → Result (List ℕ) ServeFault
eui_of gateway = said eui_in (get_member (codes "eui") gateway)

-- where its datagrams have to come from
abbrev pub from_of : Members → Result (Option (List ℕ)) ServeFault
from_of gateway = said_or None some_address_in (get_member (codes "from") gateway)

-- the power of its transmissions in dBm
abbrev pub power_of : Members → Result ℕ ServeFault
power_of gateway = said_or 14 (number_in (2 ^ 8) 27) (get_member (codes "power") gateway)

-- how long before a transmission its datagram is sent at the latest, in microseconds
abbrev pub lead_of : Members → Result ℕ ServeFault
lead_of gateway = said_or 400000 (number_in (2 ^ 32) 700000) (get_member (codes "lead") gateway)

-- a gateway's table: of several faults that of the first of these keys
abbrev pub forwarder_of : Members → Result Forwarder ServeFault
forwarder_of gateway = do
  eui ← eui_of gateway
  from ← from_of gateway
  power ← power_of gateway
  lead ← lead_of gateway
  Ok (record { eui = eui; from = from; power_dbm = power; lead_us = lead })
