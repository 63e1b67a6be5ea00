-- Which FPort and FRMPayload a frame may have (LoRaWAN L2 1.0.4 sections 4.3.2 and 4.3.3).
use Rattle.std.specs.Prelude.{ℕ, Bool}
use Rattle.std.specs.Int.{is_in_range}

-- the greatest FPort of an application; the least is 1 (section 4.3.2)
abbrev pub most_port : ℕ
most_port = 223

-- whether an application's payload may have this FPort
abbrev pub is_application_port : ℕ → Bool
is_application_port port = is_in_range 1 most_port port

-- the bytes of the longest FRMPayload, with which a PHYPayload without FOpts has 255 bytes (section 4.3.3)
abbrev pub longest_payload : ℕ
longest_payload = 242
