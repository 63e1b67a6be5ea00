-- How a data uplink is read (LoRaWAN L2 1.0.4 section 4).
use Rattle.std.specs.Prelude.{◌≡◌, ℕ, ◌+◌, ◌-◌, ◌/◌, ◌%◌, Bool, ◌==◌, ◌||◌, not, nat_lt, List, length, take, drop, slice_index}
use Rattle.std.specs.Prelude.{Some, None, Result, Ok, Err, if◌then◌else◌}
use Rattle.std.specs.Int.{w16, w32, from_le_bytes}
use Rattle.std.specs.Str.{bytes_eq}
use Rattle.lora_frame.specs.Types.{unconfirmed_up, confirmed_up}
use Rattle.lora_frame.specs.Blocks.{mic_of}
use Rattle.lora_frame.specs.declared.reading.Uplink.{Uplink}
use Rattle.lora_frame.specs.declared.reading.FrameFault.{FrameFault}
use Rattle.lora_frame.specs.declared.reading.FrameFault.TheVariants.{Short, Long, NotData, Major, OptionsCut}

-- the type of a frame: the top three bits of MHDR (section 4.2.1)
abbrev pub frame_type : List ℕ → ℕ
frame_type bytes = slice_index bytes 0 / 32

-- FCtrl (section 4.3.1)
abbrev pub control_of : List ℕ → ℕ
control_of bytes = slice_index bytes 5

-- bit n of FCtrl
abbrev pub control_bit : List ℕ → ℕ → Bool
control_bit bytes n = control_of bytes / n % 2 == 1

-- the place where FOpts end, which follow the 8 bytes of MHDR, DevAddr, FCtrl and FCnt (section 4.3.1)
abbrev pub options_end : List ℕ → ℕ
options_end bytes = 8 + control_of bytes % 16

-- the place of the MIC (section 4.4)
abbrev pub mic_place : List ℕ → ℕ
mic_place bytes = length bytes - 4

-- whether a byte stands between FOpts and the MIC: that is FPort (section 4.3.2)
abbrev pub has_port : List ℕ → Bool
has_port bytes = nat_lt (options_end bytes) (mic_place bytes)

-- DevAddr
abbrev pub addr_of : List ℕ → ℕ
addr_of bytes = from_le_bytes w32 (take 4 (drop 1 bytes))

-- what the frame says
abbrev pub uplink_record : List ℕ → Uplink
uplink_record bytes = record {
  confirmed = frame_type bytes == confirmed_up;
  addr = addr_of bytes;
  adr = control_bit bytes 128;
  adr_ack_req = control_bit bytes 64;
  ack = control_bit bytes 32;
  low = from_le_bytes w16 (take 2 (drop 6 bytes));
  opts_len = control_of bytes % 16;
  port = if has_port bytes then Some (slice_index bytes (options_end bytes)) else None;
  payload_at = if has_port bytes then options_end bytes + 1 else mic_place bytes;
  mic = drop (mic_place bytes) bytes;
}

-- the record of an uplink, or the first fault
abbrev pub uplink_of : List ℕ → Result Uplink FrameFault
uplink_of bytes =
    if nat_lt (length bytes) 12 then Err Short
    else if nat_lt 255 (length bytes) then Err Long
    else if not (frame_type bytes == unconfirmed_up || frame_type bytes == confirmed_up) then Err NotData
    else if not (slice_index bytes 0 % 4 == 0) then Err Major
    else if nat_lt (mic_place bytes) (options_end bytes) then Err OptionsCut
    else Ok (uplink_record bytes)

-- the frame ends in its MIC under this key and counter (section 4.4)
abbrev pub HasMic : List ℕ → List ℕ → ℕ → Type 0
HasMic bytes key counter =
    drop (mic_place bytes) bytes ≡ mic_of key 0 (addr_of bytes) counter (take (mic_place bytes) bytes)

-- the same as a test
unfoldable pub has_mic : List ℕ → List ℕ → ℕ → Bool
has_mic bytes key counter =
    bytes_eq (drop (mic_place bytes) bytes) (mic_of key 0 (addr_of bytes) counter (take (mic_place bytes) bytes))
