use Rattle.std.specs.Prelude.{ℕ, ◌≡◌, ◌≤◌, ◌<◌, nat_lt, Bool, List, length, slice_get, All, Option, None, if◌then◌else◌}
use Rattle.std.specs.Option.{option_map, ForSome}
use Rattle.lora_frame.specs.declared.parts.Keys.{Keys}
use Rattle.lora_frame.specs.Frame.{down_frame}
use Rattle.lora_frame.specs.Ports.{most_port}
use Rattle.uplink_gather.specs.declared.heard.HeardCopy.{HeardCopy}
use Rattle.rx_windows.specs.declared.plan.Plan.{Plan}
use Rattle.rx_windows.specs.declared.candidate.Candidate.{Candidate}
use Rattle.rx_windows.specs.Windows.{candidates_of, IsHeard, IsPlan}
use Rattle.gateway_book.specs.declared.ask.Ask.{Ask}

-- The answer to one uplink, as it is fixed when its ticket is given.

-- FPort and FRMPayload
abbrev pub Payload : Type 0
Payload = ℕ × List ℕ

-- whom it answers (number, DevAddr, keys), with what (ACK, downlink counter, how many payloads wait, and the first
-- of them), and which gateways may send it when (the copies by rank, and the device's receive windows)
pub record Job : Type 0 where
  pub number : ℕ
  pub addr : ℕ
  pub ack : Bool
  pub counter : ℕ
  pub queued : ℕ
  pub body : Option Payload
  pub copies : List HeardCopy
  pub plan : Plan
  pub keys : Keys

-- what may be sent, in the order in which it is tried
abbrev pub candidates : Job → List Candidate
candidates job = candidates_of job.copies job.plan

-- the candidate at place k, counted from 0
abbrev pub candidate_at : Job → ℕ → Option Candidate
candidate_at job k = slice_get (candidates job) k

-- what a gateway's book is asked for
abbrev pub ask_for : Job → Candidate → Ask
ask_for job c = record { number = job.number; start = c.start; freq_hz = c.freq_hz; rate = c.rate; len = c.len }

-- FPort and FRMPayload of its frame: the first payload that waits, where the candidate carries it
abbrev pub carried_body : Job → Candidate → Option Payload
carried_body job c = if c.carries then job.body else None

-- FPending: whether a payload would still wait after this frame (LoRaWAN L2 1.0.4, section 4.3.1.4)
abbrev pub is_pending : Job → Candidate → Bool
is_pending job c = if c.carries then nat_lt 1 job.queued else nat_lt 0 job.queued

-- its frame
abbrev pub frame_for : Job → Candidate → List ℕ
frame_for job c = down_frame job.keys job.addr job.counter job.ack (is_pending job c) (carried_body job c)

-- the length of a payload
abbrev pub payload_len : Payload → ℕ
payload_len payload = length payload.1

-- a port that an application may use (LoRaWAN L2 1.0.4, section 4.3.2)
abbrev pub IsPort : ℕ → Type 0
IsPort port = (1 ≤ port) × (port ≤ most_port)

-- a job that a ticket may be given for
pub record IsJob (job : Job) : Type 0 where
  pub heard_by_one : 0 < length job.copies
  pub heard : All IsHeard job.copies
  pub plan : IsPlan job.plan
  pub port : ForSome job.body (λ b. IsPort b.0)
  pub len : job.plan.payload ≡ option_map payload_len job.body
