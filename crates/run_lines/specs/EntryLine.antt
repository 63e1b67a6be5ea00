use Rattle.std.specs.Prelude.{ℕ, true, false, List, [], ◌∷◌, ◌++◌, codes, decimal}
use Rattle.std.specs.Int.{w32, to_be_bytes}
use Rattle.hex.specs.Hex.{encode_lower}
use Rattle.radio_airtime.specs.DataRate.{number_of}
use Rattle.rx_windows.specs.declared.candidate.Candidate.{Candidate}
use Rattle.rx_windows.specs.Window.{window_text}
use Rattle.server_core.specs.declared.entry.Line.{Line}
use Rattle.server_core.specs.declared.entry.Line.TheVariants.{Queued, NotQueued, Heard, NotHeard, Silent, NotTaken, Send, Frame}
use Rattle.server_core.specs.declared.entry.Line.TheVariants.{Unanswered, Stray, Cancelled, NotCancelled, Floor, NotTicked, Bad}
use Rattle.server_desk.specs.declared.heard.DeskHeard.{DeskHeard}
use Rattle.server_desk.specs.declared.heard.DeskHeard.TheVariants.{Opened, Joined}
use Rattle.text_words.specs.Words.{spaced, fault_word, refusal_name}
use Rattle.run_lines.specs.EntryName.{queue_name, hear_name, take_name}

-- The lines that answer events (docs/FORMATS.md, "airbook run").

-- an address: 8 hexadecimal digits, the most significant first
abbrev pub addr_digits : ℕ → List ℕ
addr_digits addr = encode_lower (to_be_bytes w32 addr)

-- bytes: two hexadecimal digits for each, or a dash for none
abbrev pub hex_digits : List ℕ → List ℕ
hex_digits [] = codes "-"
hex_digits (byte ∷ more) = encode_lower (byte ∷ more)

-- where a copy of an uplink went
abbrev pub heard_words : DeskHeard → List (List ℕ)
heard_words (Opened n false) = codes "opened" ∷ decimal n ∷ []
heard_words (Opened n true) = codes "opened" ∷ decimal n ∷ codes "repeat" ∷ []
heard_words (Joined n copies) = codes "joined" ∷ decimal n ∷ decimal copies ∷ []

-- what was booked: GATEWAY RX1 START FREQ DR LEN
abbrev pub candidate_words : Candidate → List (List ℕ)
candidate_words c =
    decimal c.gateway ∷ window_text c.window ∷ decimal c.start ∷ decimal c.freq_hz ∷ decimal (number_of c.rate) ∷ decimal c.len
    ∷ []

-- the words of a line
abbrev pub line_words : {A : Type 0} → Line A → List (List ℕ)
line_words (Queued addr count) = codes "queued" ∷ addr_digits addr ∷ decimal count ∷ []
line_words (NotQueued fault) = codes "no" ∷ codes "queue" ∷ queue_name fault ∷ []
line_words (Heard heard) = heard_words heard
line_words (NotHeard fault) = codes "no" ∷ codes "hear" ∷ hear_name fault ∷ []
line_words (Silent number) = codes "silent" ∷ decimal number ∷ []
line_words (NotTaken number fault) = codes "no" ∷ decimal number ∷ take_name fault ∷ []
line_words (Send number candidate) = codes "send" ∷ decimal number ∷ candidate_words candidate
line_words (Frame number bytes) = codes "frame" ∷ decimal number ∷ hex_digits bytes ∷ []
line_words (Unanswered number refusal) = codes "unanswered" ∷ decimal number ∷ refusal_name refusal ∷ []
line_words (Stray number) = codes "no" ∷ decimal number ∷ codes "Stray" ∷ []
line_words (Cancelled number airtime) = codes "cancelled" ∷ decimal number ∷ decimal airtime ∷ []
line_words (NotCancelled number fault) = codes "no" ∷ codes "cancel" ∷ decimal number ∷ fault_word fault ∷ []
line_words (Floor gateway floor) = codes "floor" ∷ decimal gateway ∷ decimal floor ∷ []
line_words NotTicked = codes "no" ∷ codes "tick" ∷ codes "UnknownGateway" ∷ []
line_words (Bad line) = codes "bad" ∷ decimal line ∷ codes "Syntax" ∷ []

-- its text, without its end
abbrev pub line_text : {A : Type 0} → Line A → List ℕ
line_text line = spaced (line_words line)

-- its text with its end, and nothing of a frame, which may be of any length
abbrev pub text_but_frame : {A : Type 0} → Line A → List ℕ
text_but_frame (Frame number bytes) = []
text_but_frame line = line_text line ++ (10 ∷ [])
