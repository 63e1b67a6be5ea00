-- Worked lines of events, by computation, and what the law speaks of.
use Rattle.std.proofs.Common.{◌≡◌, ◌<◌, ◌≤◌, ℕ, [], ◌∷◌, List, length, Some, refl, codes}
use Rattle.std.specs.Prelude.{pos, negsuc}
use Rattle.std.specs.Fmt.{digits}
use Rattle.hex.specs.Hex.{IsBytes, encode_with}
use Rattle.server_core.specs.declared.event.Event.{Event}
use Rattle.server_core.specs.declared.event.Event.TheVariants.{Queue, Hear, Pass, Tick, Cancel}
use Rattle.server_desk.specs.declared.heard.Heard1.{Heard1}
use Rattle.server_desk.specs.declared.setting.DeviceSetting.{DeviceSetting}
use Rattle.run_lines.specs.RunEvents.{line_event}
use Rattle.event_lines.specs.EventText.{event_text}
use Rattle.event_lines.specs.Laws.{IsCopy, IsEvent, IsSigned, EventsReadBack}

-- a copy of an uplink, with a sign
pub worked_copy : event_text {A = ℕ} (Hear (0x80 ∷ 0xda ∷ []) (record { gateway = 2; at = 1100; freq_hz = 868100000; rate = 5; snr = pos 55; rssi = negsuc 79 }) 1200)
    ≡ codes "hear 2 1100 868100000 5 55 -80 1200 80da"
unfolding digits encode_with
worked_copy = refl

-- a payload of no bytes
pub worked_queue : event_text {A = ℕ} (Queue 0x26011bda 9 []) ≡ codes "queue 26011bda 9 -"
unfolding digits encode_with
worked_queue = refl

pub worked_tick : event_text {A = ℕ} (Tick 1 601001) ≡ codes "tick 1 601001"
unfolding digits encode_with
worked_tick = refl

pub worked_pass : event_text {A = ℕ} (Pass 201001) ≡ codes "pass 201001"
unfolding digits encode_with
worked_pass = refl

pub worked_cancel : event_text {A = ℕ} (Cancel 7) ≡ codes "cancel 7"
unfolding digits encode_with
worked_cancel = refl

-- the law speaks of every copy whose numbers are of their types, with both signs
pub each_copy : (heard : Heard1) → heard.gateway < 65536 → heard.at < 18446744073709551616 → heard.freq_hz < 4294967296
    → heard.rate < 256 → IsSigned heard.snr → IsSigned heard.rssi → IsCopy heard
each_copy heard gateway at freq_hz rate snr rssi =
    record { gateway = gateway; at = at; freq_hz = freq_hz; rate = rate; snr = snr; rssi = rssi }

pub each_number : (n : ℕ) → n < 32768 → IsSigned (pos n)
each_number n small = small

pub each_negative : (n : ℕ) → n < 32768 → IsSigned (negsuc n)
each_negative n small = small

pub each_heard : (A : Type 0) (bytes : List ℕ) (heard : Heard1) (arrived : ℕ) → IsCopy heard → arrived < 18446744073709551616
    → IsBytes bytes → IsEvent {A = A} (Hear bytes heard arrived)
each_heard A bytes heard arrived copy small are = (copy, small, are)

pub each_queued : (A : Type 0) (addr port : ℕ) (payload : List ℕ) → addr < 4294967296 → port < 256
    → IsBytes payload → IsEvent {A = A} (Queue addr port payload)
each_queued A addr port payload address small are = (address, small, are)

-- and of each line that a run reads: one of 1,024 bytes is the longest
pub each_line : {A : Type 0} → EventsReadBack A → (devices : List DeviceSetting) (number : ℕ) (event : Event A) → IsEvent event
    → length (event_text event) ≤ 1024 → line_event devices number (event_text event) ≡ Some event
each_line law = law
