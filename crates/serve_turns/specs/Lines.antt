use Rattle.std.specs.Prelude.{ℕ, List, [], ◌∷◌, ◌++◌, codes, decimal, Option, Some, None}
use Rattle.hex.specs.Hex.{encode_lower}
use Rattle.text_words.specs.Words.{spaced}
use Rattle.server_core.specs.declared.event.Event.{Event}
use Rattle.event_lines.specs.EventText.{event_text}
use Rattle.serve_turns.specs.Tallies.{Count}

-- The lines that a server tells beside the answers to events.

-- a session of a gateway began at a moment of its clock
abbrev pub session_line : ℕ → ℕ → List ℕ
session_line gateway at = spaced (codes "session" ∷ decimal gateway ∷ decimal at ∷ [])

-- what a gateway told of a transmission: that it goes on air, or the name of an error
abbrev pub ack_line : ℕ → ℕ → Option (List ℕ) → List ℕ
ack_line token gateway None = spaced (codes "acked" ∷ decimal token ∷ decimal gateway ∷ [])
ack_line token gateway (Some name) = spaced (codes "failed" ∷ decimal token ∷ decimal gateway ∷ name ∷ [])

-- an EUI: 16 hexadecimal digits, or a dash for none
abbrev pub eui_digits : Option (List ℕ) → List ℕ
eui_digits None = codes "-"
eui_digits (Some eui) = encode_lower eui

-- so many were dropped for the reason with this name
abbrev pub drop_line : Count → List ℕ
drop_line c = spaced (codes "dropped" ∷ c.name ∷ decimal c.count ∷ eui_digits c.last ∷ [])

-- what asks a run for an event, behind a mark
abbrev pub asked_line : {A : Type 0} → Event A → List ℕ
asked_line e = codes "> " ++ event_text e
