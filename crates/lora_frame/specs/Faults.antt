-- Which frames are not written, the first fault first.
use Rattle.std.specs.Prelude.{◌+◌, Bool, ◌==◌, ◌||◌, false, not, nat_lt, length, Option, Some, None, if◌then◌else◌}
use Rattle.lora_frame.specs.Frame.{body_len}
use Rattle.lora_frame.specs.Ports.{is_application_port, longest_payload}
use Rattle.lora_frame.specs.declared.parts.Body.{Body}
use Rattle.lora_frame.specs.declared.parts.Down.{Down}
use Rattle.lora_frame.specs.declared.parts.Up.{Up}
use Rattle.lora_frame.specs.declared.writing.DownFault.{DownFault}
use Rattle.lora_frame.specs.declared.writing.UpFault.{UpFault}
use Rattle.lora_frame.specs.declared.writing.DownFault.TheVariants as down
use Rattle.lora_frame.specs.declared.writing.UpFault.TheVariants as up

-- the fault of a downlink's body: a port that is no application's, or a payload above the longest
abbrev pub down_body_fault : Option Body → Option DownFault
down_body_fault None = None
down_body_fault (Some body) =
    if not (is_application_port body.port) then Some down.Port
    else if nat_lt longest_payload (length body.payload.now) then Some down.Long
    else None

-- the fault of a downlink: a port outside those of applications, then a payload above 242 bytes
abbrev pub down_fault : Down → Option DownFault
down_fault d = down_body_fault d.body

-- whether a body has a port above those of applications: neither theirs nor 0, that of MAC commands (section 4.3.2)
abbrev pub has_high_port : Option Body → Bool
has_high_port None = false
has_high_port (Some body) = not (body.port == 0 || is_application_port body.port)

-- the fault of an uplink: a port above those of applications, or FOpts above 15 bytes, or above 255 bytes in all
abbrev pub up_fault : Up → Option UpFault
up_fault u =
    if has_high_port u.body then Some up.Port
    else if nat_lt 15 (length u.options.now) || nat_lt 255 (12 + length u.options.now + body_len u.body) then Some up.Long
    else None
