use Rattle.std.specs.Prelude.{ℕ, List, [], ◌∷◌, ◌++◌, codes, decimal}
use Rattle.std.specs.Fmt.{signed_decimal}
use Rattle.text_words.specs.Words.{spaced}
use Rattle.run_lines.specs.EntryLine.{addr_digits, hex_digits}
use Rattle.server_core.specs.declared.event.Event.{Event}
use Rattle.server_core.specs.declared.event.Event.TheVariants.{Queue, Hear, Pass, Tick, Cancel, Bad}
use Rattle.server_desk.specs.declared.heard.Heard1.{Heard1}

-- The lines that ask a run for events (docs/FORMATS.md, "airbook run").

-- which gateway heard a copy, and when: GATEWAY AT
abbrev pub gateway_words : Heard1 → List (List ℕ)
gateway_words heard = decimal heard.gateway ∷ decimal heard.at ∷ []

-- how it was heard: FREQ DR SNR RSSI
abbrev pub radio_words : Heard1 → List (List ℕ)
radio_words heard =
    decimal heard.freq_hz ∷ decimal heard.rate ∷ signed_decimal heard.snr ∷ signed_decimal heard.rssi ∷ []

abbrev pub gateway_text : Heard1 → List ℕ
gateway_text heard = spaced (gateway_words heard)

abbrev pub radio_text : Heard1 → List ℕ
radio_text heard = spaced (radio_words heard)

-- hear GATEWAY AT FREQ DR SNR RSSI ARRIVED HEX
abbrev pub hear_words : List ℕ → Heard1 → ℕ → List (List ℕ)
hear_words bytes heard arrived =
    codes "hear" ∷ gateway_words heard ++ radio_words heard ++ decimal arrived ∷ hex_digits bytes ∷ []

abbrev pub hear_text : List ℕ → Heard1 → ℕ → List ℕ
hear_text bytes heard arrived = spaced (hear_words bytes heard arrived)

-- the words of an event's line; none for a line that can't be read
abbrev pub event_words : {A : Type 0} → Event A → List (List ℕ)
event_words (Queue addr port payload) = codes "queue" ∷ addr_digits addr ∷ decimal port ∷ hex_digits payload ∷ []
event_words (Hear bytes heard arrived) = hear_words bytes heard arrived
event_words (Pass now) = codes "pass" ∷ decimal now ∷ []
event_words (Tick gateway now) = codes "tick" ∷ decimal gateway ∷ decimal now ∷ []
event_words (Cancel number) = codes "cancel" ∷ decimal number ∷ []
event_words (Bad line) = []

-- its line, without its end
abbrev pub event_text : {A : Type 0} → Event A → List ℕ
event_text event = spaced (event_words event)
