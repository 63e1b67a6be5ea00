use Rattle.std.specs.Prelude.{◌≡◌, ◌≤◌, true, length, map, All}
use Rattle.lora_frame.specs.Ports.{is_application_port, longest_payload}
use Rattle.answer_ticket.specs.Job.{Payload}
use Rattle.forwarder_sessions.specs.Sessions.{renumbered}
use Rattle.server_core.specs.Entries.{kept_gateway}
use Rattle.server_desk.specs.Queueing.{queue_limit}
use Rattle.server_desk.specs.Register.{Device}
use Rattle.serve_turns.specs.CounterLaw.{HaveOwnAddresses}
use Rattle.serve_turns.specs.Devices.{settings_of}
use Rattle.serve_turns.specs.Life.{Life}
use Rattle.serve_turns.specs.NewDesk.{set_now, with_new_desk}

-- What a new desk leaves as it was.

-- a payload that a desk takes: FPort is an application's, and it is none too long (LoRaWAN L2 1.0.4, sections 4.3.2 and 4.3.3)
pub record IsTaken (payload : Payload) : Type 0 where
  pub port : is_application_port payload.0 ≡ true
  pub short : length payload.1 ≤ longest_payload

-- what waits for a device may all have been queued
pub record HasQueue (d : Device) : Type 0 where
  pub room : length d.queue ≤ queue_limit
  pub taken : All IsTaken d.queue

-- a device as it was, but that a desk opened with the counters which it has
abbrev pub opened_so : Device → Device
opened_so d = record d { setting = set_now d }

-- the law: a gateway's book is the old one; each device is set so, with the same last uplink counter and the same next downlink counter;
-- where each has an address of its own, all that waited waits, in its order; and what belongs to no desk stays, but that numbers of
-- uplinks begin at 1
pub record NewDeskKeeps (A : Type 0) (l : Life) : Type 0 where
  pub books : (with_new_desk A l).world.gateways ≡ map kept_gateway l.world.gateways
  pub devices : map set_now (with_new_desk A l).world.reg.devices ≡ map set_now l.world.reg.devices
  pub waiting : HaveOwnAddresses (settings_of l.world.reg.devices) → All HasQueue l.world.reg.devices
      → (with_new_desk A l).world.reg.devices ≡ map opened_so l.world.reg.devices
  pub others : with_new_desk A l ≡ record l { world = (with_new_desk A l).world; known = map renumbered l.known }
