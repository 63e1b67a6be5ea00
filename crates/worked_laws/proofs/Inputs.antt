-- What a worked run is made of: two gateways and two devices, which send confirmed uplinks without a payload.
use Rattle.server_core.proofs.Words.{arith, List, [], None, Option, length, refl, true, ℕ, ◌++◌, ◌∷◌, ◌≡◌, State, book_step}
use Rattle.server_core.proofs.Words.{Gathering, HeardCopy, Limits, Candidate, Job, ask_for, Ending, Answer, Device, Gateway}
use Rattle.server_core.proofs.Words.{World, SettingLists, Asked, Sent, Heard1, DeviceSetting, Bool, false}
use Rattle.std.specs.{Prelude.pos, Prelude.negsuc, Str.bytes_eq}
use Rattle.std.proofs.lemmas.Slice.Eq.{bytes_eq-Decides}
use Rattle.radio_airtime.specs.declared.data_rate.DataRate.TheVariants.{Dr0, Dr3, Dr5}
use Rattle.lora_frame.specs.{Blocks.mic_of, Reading.addr_of, Reading.has_mic}
use Rattle.lora_frame.proofs.RoundTrips.{length-mic}
use Rattle.rx_windows.specs.declared.candidate.Window.TheVariants.{Rx1, Rx2}
use Rattle.answer_ticket.specs.declared.outcome.Ending.TheVariants.{Answered}

-- a device's session key, by the last byte of its address
abbrev pub nwk : ℕ → List ℕ
nwk last = last ∷ 2 ∷ 3 ∷ 4 ∷ 5 ∷ 6 ∷ 7 ∷ 8 ∷ 9 ∷ 10 ∷ 11 ∷ 12 ∷ 13 ∷ 14 ∷ 15 ∷ 16 ∷ []

abbrev pub first_device : DeviceSetting
first_device = record {
  addr = 0x26011bda;
  nwk = nwk 0xda;
  app = nwk 0xda;
  delay = 1;
  offset = 0;
  rx2_freq = 869525000;
  rx2_rate = Dr0;
  up = None;
  down = 0;
}

-- it listens later, and in RX2 on another channel and at another rate
abbrev pub second_device : DeviceSetting
second_device = record {
  addr = 0x26011bdb;
  nwk = nwk 0xdb;
  app = nwk 0xdb;
  delay = 2;
  offset = 2;
  rx2_freq = 868500000;
  rx2_rate = Dr3;
  up = None;
  down = 0;
}

abbrev pub settings : SettingLists
settings = record {
  gateways = record { id = 1; cap = 4096; gap = 0 } ∷ record { id = 2; cap = 4096; gap = 0 } ∷ [];
  devices = first_device ∷ second_device ∷ [];
}

abbrev pub limits : Limits
limits = record { max_open = 16; max_ever = 16; max_copies = 16 }

-- a confirmed uplink without a payload, but its MIC (LoRaWAN L2 1.0.4, section 4): its counter is below 256
abbrev pub message : ℕ → ℕ → List ℕ
message last counter = 0x80 ∷ last ∷ 0x1b ∷ 0x01 ∷ 0x26 ∷ 0 ∷ counter ∷ 0 ∷ []

-- the address in it
abbrev pub address : ℕ → ℕ
address last = addr_of (message last 0)

-- its MIC under the key
pub record Mic (last counter : ℕ) : Type 0 where
  pub a : ℕ
  pub b : ℕ
  pub c : ℕ
  pub d : ℕ
  pub is : mic_of (nwk last) 0 (address last) counter (message last counter) ≡ a ∷ b ∷ c ∷ d ∷ []

four_bytes : (l : List ℕ) → length l ≡ 4 → (a : ℕ) × (b : ℕ) × (c : ℕ) × (d : ℕ) × (l ≡ a ∷ b ∷ c ∷ d ∷ [])
four_bytes (a ∷ b ∷ c ∷ d ∷ []) e = (a, b, c, d, refl)
four_bytes l e = absurd (omega (arith, e))

pub mic : (last counter : ℕ) → Mic last counter
mic last counter =
    let x = four_bytes (mic_of (nwk last) 0 (address last) counter (message last counter))
    (length-mic (nwk last) (message last counter) 0 (address last) counter refl) in
    record { a = x.0; b = x.1; c = x.2; d = x.3; is = x.4 }

-- the uplink
abbrev pub uplink : ℕ → ℕ → List ℕ
uplink last counter =
    let m = mic last counter in message last counter ++ m.a ∷ m.b ∷ m.c ∷ m.d ∷ []

pub bytes_same : (bytes : List ℕ) → bytes_eq bytes bytes ≡ true
bytes_same bytes = (bytes_eq-Decides bytes bytes).1 refl

pub has_its_mic : (last counter : ℕ) → has_mic (uplink last counter) (nwk last) counter ≡ true
unfolding has_mic
has_its_mic last counter = let m = mic last counter in rw m.is (bytes_same (m.a ∷ m.b ∷ m.c ∷ m.d ∷ []))

-- as a gateway hears it, with this SNR
abbrev pub copy_at : ℕ → ℕ → ℕ → Heard1
copy_at gateway at snr = record { gateway = gateway; at = at; freq_hz = 868100000; rate = 5; snr = pos snr; rssi = negsuc 89 }

-- what stands in the world when a device's last uplink and next downlink have these counters
abbrev pub device_at : DeviceSetting → Option ℕ → ℕ → Device
device_at device up down = record { setting = device; queue = []; up = up; down = down }

-- the second device has not been heard
abbrev pub first_alone : Option ℕ → ℕ → List Device
first_alone up down = device_at first_device up down ∷ device_at second_device None 0 ∷ []

abbrev pub asked_by : ℕ → Asked
asked_by device = record { device = device; confirmed = true; adr_ack_req = false }

abbrev pub gateway_at : ℕ → State → Gateway
gateway_at id state = record { id = id; rules = record { cap = 4096; gap = 0 }; state = state }

abbrev pub unused : State
unused = record { floor = 0; list = []; booked = 0; cancelled = 0 }

abbrev pub kept_copy : ℕ → ℕ → ℕ → HeardCopy
kept_copy gateway at snr =
    record { gateway = gateway; at = at; freq_hz = 868100000; rate = Dr5; snr = pos snr; rssi = negsuc 89 }

abbrev pub world : List Device → List Gathering → List Asked → List Answer → List Gateway → World
world devices gathered asked answers gateways = record {
  reg = record { devices = devices; gathered = record { list = gathered; limits = limits }; asked = asked };
  answers = answers;
  gateways = gateways;
}

-- a device's answer to uplink n: it has no payload to send
abbrev pub job : DeviceSetting → ℕ → ℕ → List HeardCopy → Job
job device n counter copies = record {
  number = n;
  addr = device.addr;
  ack = true;
  counter = counter;
  queued = 0;
  body = None;
  copies = copies;
  plan = record {
    delay = device.delay;
    offset = device.offset;
    rx2_freq = device.rx2_freq;
    rx2_rate = device.rx2_rate;
    payload = None;
  };
  keys = record { nwk = device.nwk; app = device.app };
}

abbrev pub both_copies : List HeardCopy
both_copies = kept_copy 1 5000000 55 ∷ kept_copy 2 9000000 50 ∷ []

-- RX1 of the first device on a gateway
abbrev pub rx1 : ℕ → ℕ → Candidate
rx1 gateway start = record {
  gateway = gateway;
  window = Rx1;
  start = start;
  freq_hz = 868100000;
  rate = Dr5;
  len = 12;
  carries = false;
}

-- RX2 of the second device on the second gateway, which heard its uplink at 8,000,000
abbrev pub rx2 : Candidate
rx2 = record {
  gateway = 2;
  window = Rx2;
  start = 11000000;
  freq_hz = 868500000;
  rate = Dr3;
  len = 12;
  carries = false;
}

abbrev pub sent_at : ℕ → ℕ → Sent
sent_at gateway start = record { gateway = gateway; start = start; airtime = 41216 }

abbrev pub sent_in_rx2 : Sent
sent_in_rx2 = record { gateway = 2; start = 11000000; airtime = 144384 }

abbrev pub ended_at : ℕ → ℕ → Ending
ended_at gateway start = Answered gateway Rx1 start 41216 false

-- the gateway after it booked a candidate of this job
abbrev pub with_booked : Job → Candidate → Gateway → Gateway
with_booked job c g = record g { state = book_step g.rules g.state (ask_for job c) }

-- a gathering of these bytes
abbrev pub gathering : List ℕ → ℕ → List HeardCopy → Bool → Gathering
gathering bytes opened copies closed = record { bytes = bytes; opened = opened; copies = copies; closed = closed }
