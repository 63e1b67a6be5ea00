use Rattle.std.specs.Prelude.{ℕ, ◌+◌, ◌^◌, ℤ, if◌then◌else◌, List, [], ◌∷◌, ◌++◌, codes, Option, Some, None}
use Rattle.std.specs.Option.{option_map, option_to_list}
use Rattle.text_lines.specs.Line.{is_too_long}
use Rattle.text_lines.specs.Number.{number_below, number_signed}
use Rattle.text_lines.specs.Words.{words_of, is_passed_over}
use Rattle.server_desk.specs.declared.setting.DeviceSetting.{DeviceSetting}
use Rattle.server_core.specs.declared.event.Event.{Event}
use Rattle.server_core.specs.declared.event.Event.TheVariants.{Queue, Hear, Pass, Tick, Cancel, Bad}
use Rattle.text_words.specs.Words.{is_named}
use Rattle.run_lines.specs.RunWords.{addr_word, hex_word, uplink_word}
use Rattle.server_desk.specs.declared.heard.Heard1.{Heard1}

-- What the lines of `airbook run` ask for, by the devices of its settings (docs/FORMATS.md, "airbook run").

-- numbers of a type of so many bits
abbrev pub number_of : ℕ → List ℕ → Option ℕ
number_of bits word = number_below (2 ^ bits) word

abbrev pub queue_with : {A : Type 0} → Option ℕ → Option ℕ → Option (List ℕ) → Option (Event A)
queue_with (Some addr) (Some port) (Some payload) = Some (Queue addr port payload)
queue_with _ _ _ = None

-- what follows the word `queue`: ADDR PORT HEX
abbrev pub queue_event : {A : Type 0} → List (List ℕ) → Option (Event A)
queue_event (addr ∷ port ∷ payload ∷ []) = queue_with (addr_word addr) (number_of 8 port) (hex_word payload)
queue_event _ = None

-- a copy, where each of its words is one
abbrev pub heard_with : Option ℕ → Option ℕ → Option ℕ → Option ℕ → Option ℤ → Option ℤ → Option Heard1
heard_with (Some gateway) (Some at) (Some freq_hz) (Some rate) (Some snr) (Some rssi) =
    Some (record { gateway = gateway; at = at; freq_hz = freq_hz; rate = rate; snr = snr; rssi = rssi })
heard_with _ _ _ _ _ _ = None

-- the event of a line `hear`, where its words are right
abbrev pub hear_with : {A : Type 0} → Option Heard1 → Option ℕ → Option (List ℕ) → Option (Event A)
hear_with (Some heard) (Some arrived) (Some bytes) = Some (Hear bytes heard arrived)
hear_with _ _ _ = None

-- what follows the word `hear`: GATEWAY AT FREQ DR SNR RSSI ARRIVED, and the uplink
abbrev pub hear_event : {A : Type 0} → List DeviceSetting → List (List ℕ) → Option (Event A)
hear_event devices (gateway ∷ at ∷ freq_hz ∷ rate ∷ snr ∷ rssi ∷ arrived ∷ uplink ∷ []) =
    hear_with
    (heard_with (number_of 16 gateway) (number_of 64 at) (number_of 32 freq_hz) (number_of 8 rate) (number_signed snr)
    (number_signed rssi))
    (number_of 64 arrived)
    (uplink_word devices uplink)
hear_event devices _ = None

-- what follows the word `pass`: NOW
abbrev pub pass_event : {A : Type 0} → List (List ℕ) → Option (Event A)
pass_event (now ∷ []) = option_map Pass (number_of 64 now)
pass_event _ = None

abbrev pub tick_with : {A : Type 0} → Option ℕ → Option ℕ → Option (Event A)
tick_with (Some gateway) (Some now) = Some (Tick gateway now)
tick_with _ _ = None

-- what follows the word `tick`: GATEWAY NOW
abbrev pub tick_event : {A : Type 0} → List (List ℕ) → Option (Event A)
tick_event (gateway ∷ now ∷ []) = tick_with (number_of 16 gateway) (number_of 64 now)
tick_event _ = None

-- what follows the word `cancel`: N
abbrev pub cancel_event : {A : Type 0} → List (List ℕ) → Option (Event A)
cancel_event (number ∷ []) = option_map Cancel (number_of 64 number)
cancel_event _ = None

-- the event that the words are, if they are one: the first word decides which
abbrev pub worded_event : {A : Type 0} → List DeviceSetting → List (List ℕ) → Option (Event A)
worded_event devices [] = None
worded_event devices (name ∷ words) =
    if is_named (codes "queue") name then queue_event words
    else (if is_named (codes "hear") name then hear_event devices words
    else (if is_named (codes "pass") name then pass_event words
    else (if is_named (codes "tick") name then tick_event words
    else (if is_named (codes "cancel") name then cancel_event words else None))))

abbrev pub event_or_bad : {A : Type 0} → ℕ → Option (Event A) → Event A
event_or_bad number None = Bad number
event_or_bad number (Some event) = event

-- line number `number` is passed over, or is an event, or is malformed, as each line is that is too long
abbrev pub line_event : {A : Type 0} → List DeviceSetting → ℕ → List ℕ → Option (Event A)
line_event devices number line =
    if is_passed_over line then None
    else (if is_too_long line then Some (Bad number) else Some (event_or_bad number (worded_event devices (words_of line))))

-- the events of some lines, of which the first has this number
unfoldable pub events_from : {A : Type 0} → List DeviceSetting → ℕ → List (List ℕ) → List (Event A)
events_from devices number [] = []
events_from devices number (line ∷ more) =
    option_to_list (line_event devices number line) ++ events_from devices (number + 1) more

-- the events of an input's lines
abbrev pub events_of : {A : Type 0} → List DeviceSetting → List (List ℕ) → List (Event A)
events_of devices lines = events_from devices 1 lines
