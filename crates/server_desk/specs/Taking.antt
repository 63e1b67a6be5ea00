use Rattle.std.specs.Prelude.{ℕ, ◌+◌, ◌^◌, nat_le, ◌==◌, Bool, false, not, ◌&&◌, ◌||◌, if◌then◌else◌, List, [], ◌∷◌, length}
use Rattle.std.specs.Prelude.{slice_get, slice_set, Option, Some, None, Result, Ok, Err}
use Rattle.std.specs.Option.{option_map}
use Rattle.lora_frame.specs.declared.parts.Keys.{Keys}
use Rattle.uplink_gather.specs.declared.heard.HeardCopy.{HeardCopy}
use Rattle.uplink_gather.specs.Gatherings.{numbered, is_closed_at, copies_of}
use Rattle.rx_windows.specs.declared.plan.Plan.{Plan}
use Rattle.rx_windows.specs.Rank.{ranked}
use Rattle.answer_ticket.specs.Job.{Job, Payload, payload_len}
use Rattle.server_desk.specs.declared.setting.DeviceSetting.{DeviceSetting}
use Rattle.server_desk.specs.declared.faults.TakeFault.{TakeFault}
use Rattle.server_desk.specs.declared.faults.TakeFault.TheVariants.{NotReady, Taken, Silent, Engaged, CounterSpent}
use Rattle.server_desk.specs.Answers.{Known, is_given, is_not_given}
use Rattle.server_desk.specs.Register.{Device, Asked, Register}

-- A ticket is given for an uplink: to whom an answer is owed, and why none is given, is this project's profile.

-- the payload that is sent next
abbrev pub head : {X : Type 0} → List X → Option X
head [] = None
head (x ∷ xs) = Some x

-- whether an answer is owed: the uplink is confirmed, has ADRACKReq, or a payload waits for its device
abbrev pub is_owed : Asked → Device → Bool
is_owed asked device = asked.confirmed || asked.adr_ack_req || not (length device.queue == 0)

-- whether a ticket or stub of the device at this place is out
abbrev pub is_engaged : ℕ → List Asked → List Known → Bool
is_engaged place [] known = false
is_engaged place (a ∷ asked) [] = false
is_engaged place (a ∷ asked) (k ∷ known) = (is_given k && (a.device == place)) || is_engaged place asked known

-- how the device listens (LoRaWAN L2 1.0.4, section 3.3), and what waits for it
abbrev pub plan_for : DeviceSetting → Option Payload → Plan
plan_for setting payload = record {
  delay = setting.delay;
  offset = setting.offset;
  rx2_freq = setting.rx2_freq;
  rx2_rate = setting.rx2_rate;
  payload = option_map payload_len payload;
}

-- a device's session keys
abbrev pub keys_of : DeviceSetting → Keys
keys_of setting = record { nwk = setting.nwk; app = setting.app }

-- the device's job for uplink n, with these copies: by its setting, its next downlink counter, the uplink, and the queue
-- as it is now
abbrev pub job_for : Device → ℕ → Asked → List HeardCopy → Job
job_for device n asked copies = record {
  number = n;
  addr = device.setting.addr;
  ack = asked.confirmed;
  counter = device.down;
  queued = length device.queue;
  body = head device.queue;
  copies = copies;
  plan = plan_for device.setting (head device.queue);
  keys = keys_of device.setting;
}

-- the job of uplink n: its copies by rank
abbrev pub job_of : Register → ℕ → Asked → Device → Job
job_of reg n asked device = job_for device n asked (ranked (copies_of n reg.gathered.list))

-- why no ticket is given for an uplink of this device, of which none was given before; a device is engaged where a ticket
-- or stub of it is out
abbrev pub fault_of : Asked → Device → Bool → Option TakeFault
fault_of asked device engaged =
    if not (is_owed asked device) then Some Silent
    else if engaged then Some Engaged
    else if nat_le (2 ^ 32) device.down then Some CounterSpent
    else None

-- the same, by what is known of all answers
abbrev pub take_fault : Register → List Known → Asked → Device → Option TakeFault
take_fault reg known asked device = fault_of asked device (is_engaged asked.device reg.asked known)

-- the job that a ticket is given for, or why none is
abbrev pub given_or : Register → ℕ → Asked → Device → Option TakeFault → Result Job TakeFault
given_or reg n asked device None = Ok (job_of reg n asked device)
given_or reg n asked device (Some fault) = Err fault

abbrev pub take_asked : Register → List Known → ℕ → Asked → Option Device → Result Job TakeFault
take_asked reg known n asked None = Err NotReady
take_asked reg known n asked (Some device) = given_or reg n asked device (take_fault reg known asked device)

abbrev pub take_known : Register → List Known → ℕ → Option Asked → Option Known → Result Job TakeFault
take_known reg known n (Some asked) (Some k) =
    if is_not_given k then take_asked reg known n asked (slice_get reg.devices asked.device) else Err Taken
take_known reg known n asked k = Err NotReady

-- the answer to `take` of n, memory aside: the uplink has to be gathered and closed
unfoldable pub take_answer : Register → List Known → ℕ → Result Job TakeFault
take_answer reg known n =
    if is_closed_at n reg.gathered.list
    then take_known reg known n (numbered n reg.asked) (numbered n known)
    else Err NotReady

-- the device whose next downlink counter was given
abbrev pub with_counter_given : Device → Device
with_counter_given device = record device { down = device.down + 1 }

abbrev pub counter_given : ℕ → Option Device → List Device → List Device
counter_given place None devices = devices
counter_given place (Some device) devices = slice_set devices place (with_counter_given device)

abbrev pub taken_from : Option Asked → Register → Register
taken_from None reg = reg
taken_from (Some asked) reg =
    record reg { devices = counter_given asked.device (slice_get reg.devices asked.device) reg.devices }

-- what the server knows then: a downlink counter is used up where a ticket is given, and not otherwise
abbrev pub after_taking : Result Job TakeFault → ℕ → Register → Register
after_taking (Ok job) n reg = taken_from (numbered n reg.asked) reg
after_taking (Err fault) n reg = reg
