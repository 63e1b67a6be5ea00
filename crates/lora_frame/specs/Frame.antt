-- The bytes of data frames (LoRaWAN L2 1.0.4 section 4), as joined lists.
use Rattle.std.specs.Prelude.{ℕ, ◌+◌, ◌*◌, ◌%◌, Bool, ◌==◌, List, [], ◌∷◌, ◌++◌, length, Option, Some, None, if◌then◌else◌}
use Rattle.std.specs.Int.{w16, w32, to_le_bytes}
use Rattle.lora_frame.specs.Types.{unconfirmed_down, up_type}
use Rattle.lora_frame.specs.Blocks.{crypted, mic_of}
use Rattle.lora_frame.specs.declared.parts.Body.{Body}
use Rattle.lora_frame.specs.declared.parts.Keys.{Keys}
use Rattle.lora_frame.specs.declared.parts.Down.{Down}
use Rattle.lora_frame.specs.declared.parts.Up.{Up}

-- MHDR and FHDR without FOpts: the type in the top three bits of MHDR, Major 0, DevAddr, FCtrl and the
-- low 16 bits of the counter (sections 4.2 and 4.3.1)
abbrev pub header_bytes : ℕ → ℕ → ℕ → ℕ → List ℕ
header_bytes type addr control counter =
    (32 * type) ∷ to_le_bytes w32 addr ++ control ∷ to_le_bytes w16 (counter % 65536)

-- the key of FRMPayload: NwkSKey for FPort 0, else AppSKey (section 4.3.3)
abbrev pub payload_key : Keys → ℕ → List ℕ
payload_key keys port = if port == 0 then keys.nwk else keys.app

-- FPort and the encrypted FRMPayload, or nothing (section 4.3)
abbrev pub parts_bytes : Keys → ℕ → ℕ → ℕ → Option (ℕ × List ℕ) → List ℕ
parts_bytes keys direction addr counter None = []
parts_bytes keys direction addr counter (Some parts) =
    parts.0 ∷ crypted (payload_key keys parts.0) direction addr counter parts.1

-- the port and the payload of a body
abbrev pub parts_of : Option Body → Option (ℕ × List ℕ)
parts_of None = None
parts_of (Some body) = Some (body.port, body.payload.now)

-- FPort and FRMPayload of a body, encrypted; nothing where there is none
abbrev pub body_bytes : Keys → ℕ → ℕ → ℕ → Option Body → List ℕ
body_bytes keys direction addr counter body = parts_bytes keys direction addr counter (parts_of body)

-- a message and its MIC (section 4.4)
abbrev pub with_mic : Keys → ℕ → ℕ → ℕ → List ℕ → List ℕ
with_mic keys direction addr counter message = message ++ mic_of keys.nwk direction addr counter message

-- what a bit of FCtrl is worth where it is set
abbrev pub bit_worth : Bool → ℕ → ℕ
bit_worth b n = if b then n else 0

-- FCtrl of a downlink: ACK and FPending (section 4.3.1)
abbrev pub control_bits : Bool → Bool → ℕ
control_bits ack pending = bit_worth ack 0x20 + bit_worth pending 0x10

-- FCtrl of a downlink: ACK and FPending
abbrev pub down_control : Down → ℕ
down_control down = control_bits down.ack down.pending

-- a downlink but its MIC: an unconfirmed data downlink
abbrev pub message_of_parts : Keys → ℕ → ℕ → ℕ → Option (ℕ × List ℕ) → List ℕ
message_of_parts keys addr counter control parts =
    header_bytes unconfirmed_down addr control counter ++ parts_bytes keys 1 addr counter parts

-- a downlink with these keys, DevAddr, counter, ACK and FPending, and this port and payload
unfoldable pub down_frame : Keys → ℕ → ℕ → Bool → Bool → Option (ℕ × List ℕ) → List ℕ
down_frame keys addr counter ack pending parts =
    with_mic keys 1 addr counter (message_of_parts keys addr counter (control_bits ack pending) parts)

-- a downlink
abbrev pub down_bytes : Down → Keys → List ℕ
down_bytes down keys = down_frame keys down.addr down.counter down.ack down.pending (parts_of down.body)

-- FCtrl of an uplink: ADR, ADRACKReq, ACK and FOptsLen (section 4.3.1)
abbrev pub up_control : Up → ℕ
up_control up =
    bit_worth up.adr 0x80 + bit_worth up.adr_ack_req 0x40 + bit_worth up.ack 0x20 + length up.options.now

-- an uplink but its MIC
abbrev pub up_message : Up → Keys → List ℕ
up_message up keys =
    header_bytes (up_type up.confirmed) up.addr (up_control up) up.counter ++ up.options.now
    ++ body_bytes keys 0 up.addr up.counter up.body

-- an uplink
unfoldable pub up_bytes : Up → Keys → List ℕ
up_bytes up keys = with_mic keys 0 up.addr up.counter (up_message up keys)

-- how many bytes FPort and FRMPayload have
abbrev pub body_len : Option Body → ℕ
body_len None = 0
body_len (Some body) = 1 + length body.payload.now
