-- What the definitions of frames mean together.
use Rattle.std.specs.Prelude.{◌≡◌, ℕ, ◌+◌, ◌-◌, ◌%◌, ◌^◌, ◌<◌, List, length, take, drop, Some, None, Ok, option_map}
use Rattle.std.specs.Prelude.{if◌then◌else◌, is_some}
use Rattle.lora_frame.specs.Blocks.{crypted, mic_of}
use Rattle.lora_frame.specs.Frame.{payload_key, down_bytes, up_bytes, up_message}
use Rattle.lora_frame.specs.Faults.{up_fault}
use Rattle.lora_frame.specs.Reading.{uplink_of, HasMic}
use Rattle.lora_frame.specs.declared.parts.Body.{Body}
use Rattle.lora_frame.specs.declared.parts.Keys.{Keys}
use Rattle.lora_frame.specs.declared.parts.Down.{Down}
use Rattle.lora_frame.specs.declared.parts.Up.{Up}
use Rattle.lora_frame.specs.declared.reading.Uplink.{Uplink}

-- both keys have 16 bytes, as every `Key` has
pub record IsKeyPair (keys : Keys) : Type 0 where
  pub nwk : length keys.nwk ≡ 16
  pub app : length keys.app ≡ 16

-- FRMPayload of a frame without FOpts: what stands after MHDR, FHDR and FPort, up to the MIC
abbrev pub sent_payload : List ℕ → List ℕ
sent_payload frame = drop 9 (take (length frame - 4) frame)

-- the device, which has the same keys, address and counter, decrypts the payload that a downlink carries
abbrev pub DeviceDecrypts : Type 0
DeviceDecrypts = (down : Down) (keys : Keys) (body : Body) → IsKeyPair keys → down.body ≡ Some body
    → crypted (payload_key keys body.port) 1 down.addr down.counter (sent_payload (down_bytes down keys)) ≡ body.payload.now

-- what the server reads of an uplink that a device wrote
abbrev pub sent_record : Up → Keys → Uplink
sent_record up keys = record {
  confirmed = up.confirmed;
  addr = up.addr;
  adr = up.adr;
  adr_ack_req = up.adr_ack_req;
  ack = up.ack;
  low = up.counter % 65536;
  opts_len = length up.options.now;
  port = option_map (λ body. body.port) up.body;
  payload_at = 8 + length up.options.now + (if is_some up.body then 1 else 0);
  mic = mic_of keys.nwk 0 up.addr up.counter (up_message up keys);
}

-- an uplink that a device writes is read back as it was meant, and has the MIC of its counter
abbrev pub UplinkReadsBack : Type 0
UplinkReadsBack = (up : Up) (keys : Keys) → IsKeyPair keys → up.addr < 2 ^ 32 → up.counter < 2 ^ 32 → up_fault up ≡ None
    → (uplink_of (up_bytes up keys) ≡ Ok (sent_record up keys)) × HasMic (up_bytes up keys) keys.nwk up.counter
