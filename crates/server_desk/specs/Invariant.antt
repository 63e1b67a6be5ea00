use Rattle.std.specs.Prelude.{ℕ, ◌≡◌, ◌+◌, ◌^◌, ◌<◌, ◌≤◌, ◌==◌, Bool, ◌&&◌, if◌then◌else◌, List, [], ◌∷◌, map, length, slice_get}
use Rattle.std.specs.Prelude.{All, Some, None, Result, Ok, Err}
use Rattle.lora_frame.specs.Ports.{longest_payload}
use Rattle.uplink_gather.specs.Gatherings.{Gathering, numbered}
use Rattle.rx_windows.specs.Rank.{HaveDistinctGateways}
use Rattle.rx_windows.specs.Windows.{IsHeard}
use Rattle.answer_ticket.specs.Job.{Payload, IsPort}
use Rattle.server_desk.specs.Settings.{IsDeviceInRange}
use Rattle.uplink_gather.specs.declared.answers.Heard.{Heard}
use Rattle.uplink_gather.specs.declared.answers.Heard.TheVariants as gathers
use Rattle.uplink_gather.specs.declared.fault.HearFault.{HearFault}
use Rattle.server_desk.specs.declared.heard.DeskHeard.{DeskHeard}
use Rattle.server_desk.specs.declared.heard.DeskHeard.TheVariants.{Opened, Joined}
use Rattle.server_desk.specs.declared.faults.DeskFault.{DeskFault}
use Rattle.server_desk.specs.declared.device.KnownDevice.{KnownDevice}
use Rattle.server_desk.specs.Answers.{Known, NotGiven, is_given}
use Rattle.server_desk.specs.Taking.{take_fault, take_answer, job_of}
use Rattle.server_desk.specs.declared.verdict.Verdict.{Verdict}
use Rattle.server_desk.specs.declared.verdict.Verdict.TheVariants as says
use Rattle.server_desk.specs.Register.{Device, Asked, Register}
use Rattle.server_desk.specs.Hearing.{Decision, Refuse, Join, Open, is_last, asked_by, named_fault}

-- What the desk keeps beside its part of the world.

-- a device as it is kept
abbrev pub shown : {A : Type 0} → KnownDevice A → Device
shown k = record { setting = k.setting; queue = k.queue.items; up = k.up; down = k.down }

-- of which devices a ticket or stub is out
abbrev pub outs : {A : Type 0} → List (KnownDevice A) → List Bool
outs kepts = map (λ k. k.out) kepts

-- a payload that may be sent
pub record IsSendable (payload : Payload) : Type 0 where
  pub port : IsPort payload.0
  pub len : length payload.1 ≤ longest_payload

-- a device whose numbers and whose payloads are in their ranges
pub record IsServable (d : Device) : Type 0 where
  pub setting : IsDeviceInRange d.setting
  pub queue : All IsSendable d.queue
  pub down : d.down ≤ 2 ^ 32

-- an uplink that was heard at least once, by each gateway once at most, and each time by the last moment
pub record IsGathered (g : Gathering) : Type 0 where
  pub copied : 0 < length g.copies
  pub distinct : HaveDistinctGateways g.copies
  pub heard : All IsHeard g.copies

-- 1 where this uplink is of the device at this place and a ticket or stub of it is out, else 0
abbrev pub own_out : ℕ → Asked → Known → ℕ
own_out place asked known = if is_given known && (asked.device == place) then 1 else 0

-- how many tickets and stubs of the device at this place are out
abbrev pub count_out : ℕ → List Asked → List Known → ℕ
count_out place [] known = 0
count_out place (a ∷ asked) [] = 0
count_out place (a ∷ asked) (k ∷ known) = own_out place a k + count_out place asked known

-- of each device one ticket or stub is out, or none, as its flag says
abbrev pub AreOut : List Bool → List Asked → List Known → Type 0
AreOut flags asked known =
    (place : ℕ) (out : Bool) → slice_get flags place ≡ Some out → count_out place asked known ≡ (if out then 1 else 0)

-- the addresses stand in the order of the devices, and of each gathered uplink there is what it says and what is known of
-- its answer; devices and copies are in their ranges; and the flags tell of which devices a ticket or stub is out
pub record IsDesk (keys : List ℕ) (flags : List Bool) (reg : Register) (known : List Known) : Type 0 where
  pub addrs : keys ≡ map (λ d. d.setting.addr) reg.devices
  pub asked : length reg.asked ≡ length reg.gathered.list
  pub told : length known ≡ length reg.gathered.list
  pub placed : All (λ a. a.device < length reg.devices) reg.asked
  pub servable : All IsServable reg.devices
  pub gathered : All IsGathered reg.gathered.list
  pub engaged : AreOut flags reg.asked known

-- a ticket may be given for uplink n, which says this
pub record MayBeGiven (reg : Register) (known : List Known) (n : ℕ) (asked : Asked) : Type 0 where
  pub uplink : numbered n reg.asked ≡ Some asked
  pub waits : numbered n known ≡ Some NotGiven
  pub device : Device
  pub served : slice_get reg.devices asked.device ≡ Some device
  pub free : take_fault reg known asked device ≡ None
  pub answer : take_answer reg known n ≡ Ok (job_of reg n asked device)

-- what is to be done with a copy, as the desk finds it
abbrev pub verdict_of : List ℕ → Decision → Verdict
verdict_of bytes (Refuse fault) = says.Refuse fault
verdict_of bytes (Join n) = says.Join n
verdict_of bytes (Open o) =
    says.Open (record { counter = o.counter; repeat = is_last o.device o.counter; asked = asked_by o bytes })

-- the gathering's answer to a copy, as the desk gives it
abbrev pub desk_answer : Bool → Result Heard HearFault → Result DeskHeard DeskFault
desk_answer repeat (Ok (gathers.Opened n)) = Ok (Opened n repeat)
desk_answer repeat (Ok (gathers.Joined n copies)) = Ok (Joined n copies)
desk_answer repeat (Err fault) = Err (named_fault fault)
