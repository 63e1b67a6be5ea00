-- The receive windows of a Class A device (LoRaWAN L2 1.0.4, section 3.3, and RP002, EU863-870), and what
-- could be sent in them.
use Rattle.std.specs.Prelude.{ℕ, ◌+◌, ◌-◌, ◌*◌, ◌^◌, ◌≤◌, nat_le, Bool, false, List, map, ◌++◌, Option, Some, None, if◌then◌else◌}
use Rattle.std.specs.Option.{ForSome}
use Rattle.radio_airtime.specs.declared.data_rate.DataRate.{DataRate}
use Rattle.radio_airtime.specs.DataRate.{number_of, max_phy_of}
pub use Rattle.radio_airtime.specs.DataRate.{rate_numbered}
use Rattle.lora_frame.specs.Ports.{longest_payload}
use Rattle.uplink_gather.specs.declared.heard.HeardCopy.{HeardCopy}
use Rattle.rx_windows.specs.declared.plan.Plan.{Plan}
use Rattle.rx_windows.specs.declared.candidate.Candidate.{Candidate}
use Rattle.rx_windows.specs.declared.candidate.Window.TheVariants.{Rx1, Rx2}

-- an uplink that ended by 2^60 µs of its gateway's clock
abbrev pub IsHeard : HeardCopy → Type 0
IsHeard copy = copy.at ≤ 2 ^ 60

-- a plan in range: RX1 opens 1 to 15 seconds after the uplink, 0 to 5 rates below it, and the payload at the
-- head of the queue has at most 242 bytes
pub record IsPlan (plan : Plan) : Type 0 where
  pub delay_from : 1 ≤ plan.delay
  pub delay_to : plan.delay ≤ 15
  pub offset : plan.offset ≤ 5
  pub payload : ForSome plan.payload (λ n. n ≤ longest_payload)

-- RX1 opens RECEIVE_DELAY1, in seconds, after the end of the uplink (section 3.3.1); in µs
abbrev pub rx1_start : Plan → HeardCopy → ℕ
rx1_start plan copy = copy.at + plan.delay * 1000000

-- RX2 opens RECEIVE_DELAY2 after it, one second after RX1 (section 3.3.2); in µs
abbrev pub rx2_start : Plan → HeardCopy → ℕ
rx2_start plan copy = copy.at + (plan.delay + 1) * 1000000

-- the rate of RX1: the uplink's less RX1DROffset, DR0 at the lowest (RP002, EU863-870, "Receive windows");
-- `-` stops at 0
abbrev pub rx1_rate : DataRate → ℕ → DataRate
rx1_rate rate offset = rate_numbered (number_of rate - offset)

-- whether the payload at the head of the queue, of n bytes, is carried: there is one, and its frame with MHDR (1),
-- FHDR (7), FPort (1) and MIC (4) fits the rate (section 4)
abbrev pub is_carried : DataRate → Option ℕ → Bool
is_carried rate None = false
is_carried rate (Some n) = nat_le (13 + n) (max_phy_of rate)

-- the length of the frame in bytes: one without FPort and payload has 12
abbrev pub frame_len : DataRate → Option ℕ → ℕ
frame_len rate None = 12
frame_len rate (Some n) = if is_carried rate (Some n) then 13 + n else 12

-- what RX1 takes on the gateway that heard the copy: on the uplink's channel
abbrev pub rx1_of : Plan → HeardCopy → Candidate
rx1_of plan copy = record {
  gateway = copy.gateway;
  window = Rx1;
  start = rx1_start plan copy;
  freq_hz = copy.freq_hz;
  rate = rx1_rate copy.rate plan.offset;
  len = frame_len (rx1_rate copy.rate plan.offset) plan.payload;
  carries = is_carried (rx1_rate copy.rate plan.offset) plan.payload;
}

-- what RX2 takes there: on the device's RX2 channel and rate
abbrev pub rx2_of : Plan → HeardCopy → Candidate
rx2_of plan copy = record {
  gateway = copy.gateway;
  window = Rx2;
  start = rx2_start plan copy;
  freq_hz = plan.rx2_freq;
  rate = plan.rx2_rate;
  len = frame_len plan.rx2_rate plan.payload;
  carries = is_carried plan.rx2_rate plan.payload;
}

-- RX1 of each copy, then RX2 of each copy
unfoldable pub candidates_of : List HeardCopy → Plan → List Candidate
candidates_of copies plan = map (rx1_of plan) copies ++ map (rx2_of plan) copies
