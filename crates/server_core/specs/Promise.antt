use Rattle.std.specs.Prelude.{ℕ, ◌≡◌, ◌≢◌, ◌+◌, List, [], ◌∷◌, map, length, slice_get, AllPairs, Contains, Some, Ok}
use Rattle.lora_frame.specs.Reading.{addr_of}
use Rattle.resv_list.specs.declared.reservation.Reservation.{Reservation}
use Rattle.resv_list.specs.Reservations.{net}
use Rattle.gateway_book.specs.Answer.{IsAsked}
use Rattle.gateway_book.specs.Lawful.{IsLawful}
use Rattle.uplink_gather.specs.declared.limits.Limits.{Limits}
use Rattle.uplink_gather.specs.Gatherings.{Gathering, numbered}
use Rattle.rx_windows.specs.declared.candidate.Candidate.{Candidate}
use Rattle.rx_windows.specs.Laws.{IsWindowOf}
use Rattle.answer_ticket.specs.Job.{Job, candidates, ask_for}
use Rattle.server_desk.specs.declared.setting.GatewaySetting.{GatewaySetting}
use Rattle.server_desk.specs.Settings.{SettingLists, AreSettings}
use Rattle.server_desk.specs.Register.{Device}
use Rattle.server_desk.specs.Taking.{plan_for}
use Rattle.server_desk.specs.World.{Gateway, World}
use Rattle.server_core.specs.Steps.{Step, Reply, Given, Run, run}

-- What holds after every list of steps: over every interleaving each gathered uplink holds at most one reservation, in its
-- own RX1 or RX2 on a gateway that heard it, every gateway's list is lawful, and no downlink counter is given twice.

-- the member at place k of the list of the gateway at place i
pub record IsMember (w : World) (i k : ℕ) (g : Gateway) (r : Reservation) : Type 0 where
  pub gateway : slice_get w.gateways i ≡ Some g
  pub member : slice_get g.state.list k ≡ Some r

-- the gateway's setting
abbrev pub setting_of : Gateway → GatewaySetting
setting_of g = record { id = g.id; cap = g.rules.cap; gap = g.rules.gap }

-- the jobs for which tickets were given, in order
abbrev pub with_given : Reply → List Job → List Job
with_given (Given (Ok job)) jobs = job ∷ jobs
with_given reply jobs = jobs

abbrev pub jobs_given : List Reply → List Job
jobs_given [] = []
jobs_given (reply ∷ replies) = with_given reply (jobs_given replies)

-- a ticket was given in this run for its uplink's job, whose address is the one in the uplink's bytes, and it takes what a
-- candidate of this job asks for: RX1 or RX2 of a copy of the uplink that this gateway heard, as the device with that
-- address listens, by the payload of the job, if it has one (the head of the device's queue, as the step has it that gives
-- the ticket)
pub record IsOwnWindow (r : Run) (g : Gateway) (a : Reservation) : Type 0 where
  pub gathering : Gathering
  pub gathered : numbered a.number r.world.reg.gathered.list ≡ Some gathering
  pub device : Device
  pub served : Contains r.world.reg.devices device
  pub its_own : device.setting.addr ≡ addr_of gathering.bytes
  pub job : Job
  pub given : Contains (jobs_given r.replies) job
  pub addr : job.addr ≡ addr_of gathering.bytes
  pub plan : job.plan ≡ plan_for device.setting job.body
  pub candidate : Candidate
  pub tried : Contains (candidates job) candidate
  pub window : IsWindowOf (plan_for device.setting job.body) gathering.copies candidate
  pub here : candidate.gateway ≡ g.id
  pub asked : IsAsked (ask_for job candidate) a

-- two tickets of one device have different downlink counters
abbrev pub HaveOwnCounters : Job → Job → Type 0
HaveOwnCounters a b = a.addr ≡ b.addr → a.counter ≢ b.counter

-- what the law promises of a run
pub record IsSafe (settings : SettingLists) (r : Run) : Type 0 where
  -- the gateways and devices are those of the settings
  pub gateways : map setting_of r.world.gateways ≡ settings.gateways
  pub devices : map (λ d. d.setting) r.world.reg.devices ≡ settings.devices
  -- what is known of each gathered uplink, and how far its answer is, are kept once each
  pub told : length r.world.reg.asked ≡ length r.world.reg.gathered.list
  pub answered : length r.world.answers ≡ length r.world.reg.gathered.list
  -- every gateway's list is lawful with its gap, and its totals are those of its list
  pub lawful : (i : ℕ) (g : Gateway) → slice_get r.world.gateways i ≡ Some g → IsLawful g.rules.gap g.state.list
  pub counted : (i : ℕ) (g : Gateway) → slice_get r.world.gateways i ≡ Some g
      → g.state.booked ≡ g.state.cancelled + net g.state.list
  -- a number stands at most once over all gateways
  pub once : (i j k l : ℕ) (g h : Gateway) (a b : Reservation) → IsMember r.world i k g a → IsMember r.world j l h b
      → a.number ≡ b.number → (i ≡ j) × (k ≡ l)
  -- it stands for its uplink's own window, of the job that a ticket was given for, on a gateway that heard it
  pub own : (i k : ℕ) (g : Gateway) (a : Reservation) → IsMember r.world i k g a → IsOwnWindow r g a
  -- a number's ticket is given once, and a downlink counter to one number of its device
  pub tickets : AllPairs (λ a b. a.number ≢ b.number) (jobs_given r.replies)
  pub counters : AllPairs HaveOwnCounters (jobs_given r.replies)

-- for all settings, all limits and every list of steps
abbrev pub EveryInterleavingIsSafe : Type 0
EveryInterleavingIsSafe = (settings : SettingLists) → AreSettings settings.gateways settings.devices → (limits : Limits)
    → (steps : List Step) → IsSafe settings (run settings limits steps)
