use Rattle.std.specs.Prelude.{ℕ, ◌+◌, ◌/◌, ◌^◌, Bool, nat_lt, nat_le, ◌&&◌, ◌||◌, if◌then◌else◌, List, [], ◌∷◌, length, codes}
use Rattle.std.specs.Prelude.{Option, Some, None, option_and_then, Result, Ok, Err}
use Rattle.std.specs.Option.{option_map}
use Rattle.std.specs.List.{list_all}
use Rattle.std.specs.Int.{w32, from_be_bytes}
use Rattle.hex.specs.Hex.{decode_sized}
use Rattle.radio_airtime.specs.DataRate.{known_rate}
use Rattle.radio_airtime.specs.declared.data_rate.DataRate.{DataRate}
use Rattle.text_lines.specs.Words.{is_named}
use Rattle.gateway_book.specs.Loading.{words_between, plain_number}
use Rattle.serve_journal.specs.declared.entry.Entry.{Entry}
use Rattle.serve_journal.specs.declared.entry.Entry.TheVariants.{Gateway, Device, Queue, Taken, Clock, Sent}
use Rattle.serve_journal.specs.Payload.{Waiting, payload_of}

-- What a line of a journal says, if it says something.

-- a digit of a hexadecimal number in lower case: `0` to `9`, `a` to `f`
unfoldable pub is_lower_digit : ℕ → Bool
is_lower_digit c = (nat_le 48 c && nat_le c 57) || (nat_le 97 c && nat_le c 102)

-- what was found, if no fault was
abbrev pub found : {T E : Type 0} → Result T E → Option T
found (Ok value) = Some value
found (Err fault) = None

-- so many bytes, two digits in lower case for each
abbrev pub hex_sized : ℕ → List ℕ → Option (List ℕ)
hex_sized count word = if list_all is_lower_digit word then found (decode_sized word count) else None

-- ADDR: 8 digits, the most significant first
abbrev pub addr_in : List ℕ → Option ℕ
addr_in word = option_map (from_be_bytes w32) (hex_sized 4 word)

-- UP: a counter of 32 bits, or a dash
abbrev pub up_in : List ℕ → Option (Option ℕ)
up_in word = if is_named (codes "-") word then Some None else option_map Some (plain_number (2 ^ 32) word)

-- DOWN: 0 to 2^32
abbrev pub down_in : List ℕ → Option ℕ
down_in word = plain_number (2 ^ 32 + 1) word

-- HEX, where it is no dash: 1 to 242 bytes
abbrev pub digits_in : List ℕ → Option (List ℕ)
digits_in word = if nat_lt 0 (length word) && nat_le (length word) 484 then hex_sized (length word / 2) word else None

-- HEX: bytes, or a dash for none
abbrev pub bytes_in : List ℕ → Option (List ℕ)
bytes_in word = if is_named (codes "-") word then Some [] else digits_in word

-- PORT HEX
abbrev pub payload_in : List ℕ → List ℕ → Option Waiting
payload_in port bytes =
    option_and_then (λ number. option_and_then (payload_of number) (bytes_in bytes)) (plain_number (2 ^ 8) port)

-- an entry of these fields, where each is there

abbrev pub gateway_with : Option ℕ → Option (List ℕ) → Option ℕ → Option ℕ → Option Entry
gateway_with (Some id) (Some eui) (Some cap) (Some gap) = Some (Gateway id eui cap gap)
gateway_with _ _ _ _ = None

abbrev pub device_with : Option ℕ → Option (List ℕ) → Option (Option ℕ) → Option ℕ → Option Entry
device_with (Some addr) (Some session) (Some up) (Some down) = Some (Device addr session up down)
device_with _ _ _ _ = None

abbrev pub queue_with : Option ℕ → Option Waiting → Option Entry
queue_with (Some addr) (Some payload) = Some (Queue addr payload)
queue_with _ _ = None

abbrev pub taken_with : Option ℕ → Option Entry
taken_with (Some addr) = Some (Taken addr)
taken_with None = None

abbrev pub clock_with : Option ℕ → Option ℕ → Option ℕ → Option Entry
clock_with (Some id) (Some high) (Some floor) = Some (Clock id high floor)
clock_with _ _ _ = None

abbrev pub sent_with : Option ℕ → Option ℕ → Option ℕ → Option DataRate → Option ℕ → Option Entry
sent_with (Some id) (Some start) (Some freq_hz) (Some rate) (Some len) = Some (Sent id start freq_hz rate len)
sent_with _ _ _ _ _ = None

-- what the words behind the name say, by the name

-- gateway ID EUI CAP GAP
abbrev pub gateway_in : List (List ℕ) → Option Entry
gateway_in (id ∷ eui ∷ cap ∷ gap ∷ []) =
    gateway_with (plain_number (2 ^ 16) id) (hex_sized 8 eui) (plain_number (2 ^ 32) cap) (plain_number (2 ^ 32) gap)
gateway_in _ = None

-- device ADDR SESSION UP DOWN
abbrev pub device_in : List (List ℕ) → Option Entry
device_in (addr ∷ session ∷ up ∷ down ∷ []) = device_with (addr_in addr) (hex_sized 4 session) (up_in up) (down_in down)
device_in _ = None

-- queue ADDR PORT HEX
abbrev pub queue_in : List (List ℕ) → Option Entry
queue_in (addr ∷ port ∷ bytes ∷ []) = queue_with (addr_in addr) (payload_in port bytes)
queue_in _ = None

-- taken ADDR
abbrev pub taken_in : List (List ℕ) → Option Entry
taken_in (addr ∷ []) = taken_with (addr_in addr)
taken_in _ = None

-- clock ID HIGH FLOOR
abbrev pub clock_in : List (List ℕ) → Option Entry
clock_in (id ∷ high ∷ floor ∷ []) =
    clock_with (plain_number (2 ^ 16) id) (plain_number (2 ^ 64) high) (plain_number (2 ^ 64) floor)
clock_in _ = None

-- sent ID START FREQ DR LEN
abbrev pub sent_in : List (List ℕ) → Option Entry
sent_in (id ∷ start ∷ freq_hz ∷ rate ∷ len ∷ []) =
    sent_with (plain_number (2 ^ 16) id) (plain_number (2 ^ 64) start) (plain_number (2 ^ 32) freq_hz)
    (option_and_then known_rate (plain_number (2 ^ 8) rate)) (plain_number (2 ^ 8) len)
sent_in _ = None

abbrev pub entry_in : List (List ℕ) → Option Entry
entry_in [] = None
entry_in (name ∷ fields) =
    if is_named (codes "sent") name then sent_in fields
    else if is_named (codes "clock") name then clock_in fields
    else if is_named (codes "device") name then device_in fields
    else if is_named (codes "taken") name then taken_in fields
    else if is_named (codes "queue") name then queue_in fields
    else if is_named (codes "gateway") name then gateway_in fields
    else None

-- what a line says, its line feed left out
abbrev pub entry_of : List ℕ → Option Entry
entry_of line = entry_in (words_between line)
