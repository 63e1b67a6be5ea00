use Rattle.std.specs.Prelude.{ℕ, ◌&&◌, nat_le, if◌then◌else◌, List, length, Option, Some, None}
use Rattle.lora_frame.specs.Ports.{is_application_port}

-- A payload that waits for a device.

-- FPort, and FRMPayload before it is encrypted (LoRaWAN L2 1.0.4, sections 4.3.2 and 4.3.3)
pub record Waiting : Type 0 where
  pub port : ℕ
  pub bytes : List ℕ

-- the port is an application's, and the longest frame has room for the bytes
abbrev pub payload_of : ℕ → List ℕ → Option Waiting
payload_of port bytes =
    if is_application_port port && nat_le (length bytes) 242 then Some (record { port = port; bytes = bytes }) else None
