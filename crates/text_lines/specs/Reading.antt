-- What a reader ahead gives, in terms of the bytes that its caller has not yet taken.
use Rattle.std.specs.Prelude.{◌≡◌, ℕ, ◌<◌, ◌≤◌, List, [], ◌∷◌, ◌++◌, length, take, ⊤, Option, None, Some, Result, Ok, Err}
use Rattle.std.specs.Str.Lines.{lines}
use Rattle.text_lines.specs.Ahead.{Ahead, read_count, most_input}
use Rattle.text_lines.specs.Calls.{next_count}
use Rattle.text_lines.specs.Line.{HasNoLineFeed, kept}
use Rattle.text_lines.specs.declared.ahead.InFault.{InFault}
use Rattle.text_lines.specs.declared.ahead.InFault.TheVariants.{Read, TooMuch}
use Rattle.text_lines.specs.declared.ahead.NextLine.{NextLine}
use Rattle.text_lines.specs.declared.ahead.NextLine.TheVariants.{Whole, Last, End}
use Rattle.text_lines.specs.declared.held_line.TheConstants.{KEPT_LIMIT}

-- `Read` comes exactly where a call of the reader failed
abbrev pub CountsRead : {T : Type 0} → ℕ → ℕ → Result T InFault → Type 0
CountsRead old new (Ok _) = new ≡ old
CountsRead old new (Err Read) = new ≡ next_count old
CountsRead old new (Err TooMuch) = new ≡ old

-- `TooMuch` comes only where more than 2^28 bytes were read
abbrev pub IsTooMuchOnlyPast : {T : Type 0} → Ahead → Result T InFault → Type 0
IsTooMuchOnlyPast ahead (Ok _) = ⊤
IsTooMuchOnlyPast ahead (Err Read) = ⊤
IsTooMuchOnlyPast ahead (Err TooMuch) = most_input < read_count ahead

-- where the input has ended, at most 2^28 bytes were taken, which is all
abbrev pub IsEndWithin : Ahead → NextLine → Type 0
IsEndWithin ahead Whole = ⊤
IsEndWithin ahead Last = (ahead.pending ≡ []) × (ahead.taken ≤ most_input)
IsEndWithin ahead End = (ahead.pending ≡ []) × (ahead.taken ≤ most_input)

-- where a line was found, at least one byte was taken
abbrev pub AdvancesAt : NextLine → Ahead → Ahead → Type 0
AdvancesAt Whole old new = old.taken < new.taken
AdvancesAt Last old new = old.taken < new.taken
AdvancesAt End old new = ⊤

-- `raw` stands at the front of the bytes with a line feed after it, and `rest` follows; `held` is the front of `raw`
pub record TakesPart (bytes held rest : List ℕ) : Type 0 where
  pub raw : List ℕ
  pub front : bytes ≡ raw ++ (10 ∷ rest)
  pub unbroken : HasNoLineFeed raw
  pub keeps : held ≡ take KEPT_LIMIT raw

-- the bytes are not empty and have no line feed; `held` is their front, and nothing is left
pub record TakesLastPart (bytes held rest : List ℕ) : Type 0 where
  pub some : 0 < length bytes
  pub unbroken : HasNoLineFeed bytes
  pub keeps : held ≡ take KEPT_LIMIT bytes
  pub none : rest ≡ []

-- nothing was left, and nothing is held
pub record TakesNothing (bytes held rest : List ℕ) : Type 0 where
  pub ended : bytes ≡ []
  pub keeps : held ≡ []
  pub none : rest ≡ []

-- what one call of `next_part` found in the bytes and left of them, and what it holds
abbrev pub GivesPart : Option (List ℕ) → Option (List ℕ) → NextLine → List ℕ → Type 0
GivesPart None after found held = ⊤
GivesPart (Some bytes) None found held = ⊥
GivesPart (Some bytes) (Some rest) Whole held = TakesPart bytes held rest
GivesPart (Some bytes) (Some rest) Last held = TakesLastPart bytes held rest
GivesPart (Some bytes) (Some rest) End held = TakesNothing bytes held rest

-- `taken` stands at the front of the bytes, and `rest` follows; whatever follows `taken`, `line` is the first line
pub record TakesLine (bytes held rest : List ℕ) : Type 0 where
  pub line : List ℕ
  pub taken : List ℕ
  pub front : bytes ≡ taken ++ rest
  pub first : (more : List ℕ) → lines (taken ++ more) ≡ line ∷ lines more
  pub keeps : held ≡ kept line

-- the bytes are one line without a line feed, and nothing is left
pub record TakesLastLine (bytes held rest : List ℕ) : Type 0 where
  pub last : lines bytes ≡ bytes ∷ []
  pub keeps : held ≡ kept bytes
  pub none : rest ≡ []

-- what one call of `next_line` found in the bytes and left of them, and what it holds
abbrev pub GivesLine : Option (List ℕ) → Option (List ℕ) → NextLine → List ℕ → Type 0
GivesLine None after found held = ⊤
GivesLine (Some bytes) None found held = ⊥
GivesLine (Some bytes) (Some rest) Whole held = TakesLine bytes held rest
GivesLine (Some bytes) (Some rest) Last held = TakesLastLine bytes held rest
GivesLine (Some bytes) (Some rest) End held = TakesNothing bytes held rest
