use Rattle.std.specs.Prelude.{ℕ, ◌^◌, ◌==◌, nat_lt, Bool, true, false, ◌&&◌, if◌then◌else◌, List, [], ◌∷◌, ◌++◌, take, drop}
use Rattle.std.specs.Prelude.{length, slice_index, find, Option, Some, None, Result, Ok, Err}
use Rattle.std.specs.Option.{option_map}
use Rattle.std.specs.Int.{w32, from_be_bytes}
use Rattle.hex.specs.Hex.{decode_of, decode_sized}
use Rattle.text_lines.specs.Number.{number_below}
use Rattle.lora_frame.specs.declared.parts.Keys.{Keys}
use Rattle.lora_frame.specs.Frame.{header_bytes, bit_worth, with_mic}
use Rattle.server_desk.specs.declared.setting.DeviceSetting.{DeviceSetting}
use Rattle.server_core.specs.Taking.{keys_of}

-- What the words of an event line say.

abbrev pub or_none : {T E : Type 0} → Result T E → Option T
or_none (Ok found) = Some found
or_none (Err fault) = None

-- ADDR: a device's address, 8 hexadecimal digits in either case, the most significant first
abbrev pub addr_word : List ℕ → Option ℕ
addr_word word = option_map (from_be_bytes w32) (or_none (decode_sized word 4))

-- HEX: bytes, two hexadecimal digits for each, in either case, or `-` for none
abbrev pub hex_word : List ℕ → Option (List ℕ)
hex_word word = if (length word == 1) && (slice_index word 0 == 45) then Some [] else or_none (decode_of word)

-- a kind of uplink: whether it is confirmed, and whether it has ADRACKReq
abbrev pub Kind : Type 0
Kind = Bool × Bool

-- `c`, `u` or `a`: confirmed, unconfirmed, or unconfirmed with ADRACKReq
abbrev pub kind_of : ℕ → Option Kind
kind_of byte =
    if byte == 99 then Some (true, false)
    else (if byte == 117 then Some (false, false) else (if byte == 97 then Some (false, true) else None))

-- the session keys of the device with this address
abbrev pub keys_for : ℕ → List DeviceSetting → Option Keys
keys_for addr devices = option_map keys_of (find (λ d. d.addr == addr) devices)

-- an uplink of a device without FOpts, FPort and FRMPayload, all but its MIC (LoRaWAN L2 1.0.4, section 4)
abbrev pub bare_message : Kind → ℕ → ℕ → List ℕ
bare_message kind addr counter =
    header_bytes (if kind.0 then 4 else 2) addr (bit_worth kind.1 0x40) counter

-- the uplink; where no device has the address, its MIC is four zeros
abbrev pub bare_uplink : Option Keys → Kind → ℕ → ℕ → List ℕ
bare_uplink None kind addr counter = bare_message kind addr counter ++ 0 ∷ 0 ∷ 0 ∷ 0 ∷ []
bare_uplink (Some keys) kind addr counter = with_mic keys 0 addr counter (bare_message kind addr counter)

abbrev pub made_of : List DeviceSetting → Option Kind → Option ℕ → Option ℕ → Option (List ℕ)
made_of devices (Some kind) (Some addr) (Some counter) = Some (bare_uplink (keys_for addr devices) kind addr counter)
made_of devices _ _ _ = None

-- `@KIND:ADDR:COUNTER`: an uplink that is made for its device
abbrev pub made_word : List DeviceSetting → List ℕ → Option (List ℕ)
made_word devices word =
    if nat_lt 12 (length word) && ((slice_index word 2 == 58) && (slice_index word 11 == 58))
    then made_of devices (kind_of (slice_index word 1)) (addr_word (take 8 (drop 3 word))) (number_below (2 ^ 32) (drop 12 word))
    else None

-- the bytes of an uplink, given or made
abbrev pub uplink_word : List DeviceSetting → List ℕ → Option (List ℕ)
uplink_word devices word = if slice_index word 0 == 64 then made_word devices word else hex_word word
