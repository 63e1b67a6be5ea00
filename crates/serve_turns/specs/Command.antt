use Rattle.std.specs.Prelude.{ℕ, ◌==◌, Bool, false, not, ◌&&◌, if◌then◌else◌, List, [], ◌∷◌, slice_index, codes, Option, Some, None}
use Rattle.text_lines.specs.Line.{is_too_long}
use Rattle.text_lines.specs.Words.{is_named, words_of}
use Rattle.run_lines.specs.RunEvents.{number_of}
use Rattle.run_lines.specs.RunInput.{without_end}
use Rattle.run_lines.specs.RunWords.{addr_word, hex_word}
use Rattle.forwarder_sessions.specs.declared.session.Endpoint.{Endpoint}
use Rattle.serve_turns.specs.declared.command.Command.{Command}
use Rattle.serve_turns.specs.declared.command.Command.TheVariants.{Queue, Report}
use Rattle.serve_turns.specs.Effects.{Packet}

-- What a program on the machine itself asks a server for: a datagram with one line, as those of `airbook run`.

-- an address of the machine itself (RFC 1122, section 3.2.1.3)
abbrev pub is_own : Endpoint → Bool
is_own e = slice_index e.ip 0 == 127

-- what packet forwarders send begins with the version of their protocol, 2
abbrev pub begins_otherwise : List ℕ → Bool
begins_otherwise [] = false
begins_otherwise (first ∷ rest) = not (first == 2)

abbrev pub is_control : Packet → Bool
is_control p = is_own p.source && begins_otherwise p.bytes

-- that a payload is queued, where each of the words is one
abbrev pub queue_with : {A : Type 0} → Option ℕ → Option ℕ → Option (List ℕ) → Option (Command A)
queue_with (Some addr) (Some port) (Some payload) = Some (Queue (record { addr = addr; port = port; payload = payload }))
queue_with _ _ _ = None

-- what follows the word `queue`: ADDR PORT HEX
abbrev pub queue_command : {A : Type 0} → List (List ℕ) → Option (Command A)
queue_command (addr ∷ port ∷ payload ∷ []) = queue_with (addr_word addr) (number_of 8 port) (hex_word payload)
queue_command _ = None

-- what follows the word `report`: nothing
abbrev pub report_command : {A : Type 0} → List (List ℕ) → Option (Command A)
report_command [] = Some Report
report_command _ = None

abbrev pub worded_command : {A : Type 0} → List (List ℕ) → Option (Command A)
worded_command [] = None
worded_command (name ∷ words) =
    if is_named (codes "queue") name then queue_command words
    else (if is_named (codes "report") name then report_command words else None)

-- what a line asks for, if it asks for something
abbrev pub line_command : {A : Type 0} → List ℕ → Option (Command A)
line_command line = if is_too_long line then None else worded_command (words_of line)

-- what a datagram asks for, whose line may have its end
abbrev pub command_of : {A : Type 0} → List ℕ → Option (Command A)
command_of bytes = line_command (without_end bytes)
