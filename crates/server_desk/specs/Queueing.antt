use Rattle.std.specs.Prelude.{ℕ, ◌+◌, not, nat_lt, nat_le, if◌then◌else◌, [], ◌∷◌, ◌++◌, length, slice_set, Option, Some}
use Rattle.std.specs.Prelude.{None, Result, Ok, Err}
use Rattle.lora_frame.specs.Ports.{is_application_port, longest_payload}
use Rattle.answer_ticket.specs.Job.{Payload}
use Rattle.server_desk.specs.declared.faults.QueueFault.{QueueFault}
use Rattle.server_desk.specs.declared.faults.QueueFault.TheVariants.{UnknownDevice, Port, Long, QueueFull}
use Rattle.server_desk.specs.Register.{Device, Register, device_with}

-- A payload is queued for a device: FPort as LoRaWAN L2 1.0.4, section 4.3.2 has it; that 16 may wait and how long each may
-- be is this project's profile.

-- how many payloads may wait for a device
abbrev pub queue_limit : ℕ
queue_limit = 16

-- why a payload isn't queued for this device
abbrev pub queue_fault : Device → Payload → Option QueueFault
queue_fault device payload =
    if not (is_application_port payload.0) then Some Port
    else if nat_lt longest_payload (length payload.1) then Some Long
    else if nat_le queue_limit (length device.queue) then Some QueueFull
    else None

-- how many wait then, or why it isn't queued
abbrev pub queued_or : Device → Option QueueFault → Result ℕ QueueFault
queued_or device None = Ok (length device.queue + 1)
queued_or device (Some fault) = Err fault

abbrev pub queue_answer_for : Option (ℕ × Device) → Payload → Result ℕ QueueFault
queue_answer_for None payload = Err UnknownDevice
queue_answer_for (Some found) payload = queued_or found.1 (queue_fault found.1 payload)

-- the answer to a payload for the device with this address, memory aside
abbrev pub queue_answer : Register → ℕ → Payload → Result ℕ QueueFault
queue_answer reg addr payload = queue_answer_for (device_with addr reg.devices) payload

-- the device with one payload more at the end of its queue
abbrev pub with_payload : Payload → Device → Device
with_payload payload device = record device { queue = device.queue ++ payload ∷ [] }

abbrev pub after_queueing : Result ℕ QueueFault → Option (ℕ × Device) → Payload → Register → Register
after_queueing (Err fault) found payload reg = reg
after_queueing (Ok count) None payload reg = reg
after_queueing (Ok count) (Some found) payload reg =
    record reg { devices = slice_set reg.devices found.0 (with_payload payload found.1) }

-- what the server knows then: a payload that is refused changes nothing
abbrev pub queue_step : Register → ℕ → Payload → Register
queue_step reg addr payload = after_queueing (queue_answer reg addr payload) (device_with addr reg.devices) payload reg
