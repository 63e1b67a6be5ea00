use Rattle.std.specs.Prelude.{ℕ, ◌≢◌, ◌<◌, ◌≤◌, ◌-◌, take, ⊤, length, slice_index, Option, Some, None, Result, Ok, Err, ◌==◌}
use Rattle.std.specs.Prelude.{Bool, if◌then◌else◌, List, [], ◌∷◌, codes}
use Rattle.std.specs.List.{concat}
use Rattle.std.specs.Str.{bytes_eq}
use Rattle.std.specs.Str.Lines.{strip_carriage_return}
use Rattle.text_lines.specs.Ahead.{most_input}
use Rattle.text_words.specs.declared.fault.TextFault.{TextFault}
use Rattle.text_words.specs.declared.fault.TextFault.TheVariants.{Read, Write, TooMuch, Settings, NoMemory}

-- The two parts of the input of `airbook run`: settings, and the lines of events (docs/FORMATS.md, "airbook run").

-- no line feed stands before place k
abbrev pub NoFeedBefore : ℕ → List ℕ → Type 0
NoFeedBefore k bytes = (i : ℕ) → i < k → slice_index bytes i ≢ 10

-- one more byte at the front of the first line
abbrev pub onto_first : ℕ → List (List ℕ) → List (List ℕ)
onto_first byte [] = (byte ∷ []) ∷ []
onto_first byte (line ∷ more) = (byte ∷ line) ∷ more

-- the lines of some bytes, each with the line feed that ends it, if one does
abbrev pub raw_lines : List ℕ → List (List ℕ)
raw_lines [] = []
raw_lines (byte ∷ bytes) = if byte == 10 then (byte ∷ []) ∷ raw_lines bytes else onto_first byte (raw_lines bytes)

-- a line without the line feed that ends it, if one does, and without the carriage return before that
abbrev pub without_end : List ℕ → List ℕ
without_end line =
    if slice_index line (length line - 1) == 10 then strip_carriage_return (take (length line - 1) line) else line

-- the line that parts them: three hyphens, whatever its end
abbrev pub is_rule : List ℕ → Bool
is_rule line = bytes_eq (without_end line) (codes "---")

-- the lines before the first of these; all, where there is none
abbrev pub before_rule : List (List ℕ) → List (List ℕ)
before_rule [] = []
before_rule (line ∷ more) = if is_rule line then [] else line ∷ before_rule more

-- the lines after it; none, where there is none
abbrev pub after_rule : List (List ℕ) → List (List ℕ)
after_rule [] = []
after_rule (line ∷ more) = if is_rule line then more else after_rule more

-- the text of the settings
unfoldable pub settings_part : List ℕ → List ℕ
settings_part bytes = concat (before_rule (raw_lines bytes))

-- the text of the event lines
unfoldable pub event_part : List ℕ → List ℕ
event_part bytes = concat (after_rule (raw_lines bytes))

-- the input's length, where it is known: more than 2^28 bytes where `TooMuch` is answered, and at most so many where the
-- whole of it was read
abbrev pub KeepsInputLimit : {T : Type 0} → Option (List ℕ) → Result T TextFault → Type 0
KeepsInputLimit None result = ⊤
KeepsInputLimit (Some bytes) (Ok _) = length bytes ≤ most_input
KeepsInputLimit (Some bytes) (Err TooMuch) = most_input < length bytes
KeepsInputLimit (Some bytes) (Err Write) = length bytes ≤ most_input
KeepsInputLimit (Some bytes) (Err (Settings name)) = length bytes ≤ most_input
KeepsInputLimit (Some bytes) (Err _) = ⊤

-- why not all bytes of an input were read
abbrev pub IsInputFault : TextFault → Type 0
IsInputFault Read = ⊤
IsInputFault TooMuch = ⊤
IsInputFault NoMemory = ⊤
IsInputFault other = ⊥
