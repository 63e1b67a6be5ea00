use Rattle.std.specs.Prelude.{◌≡◌, ℕ, ◌+◌, ◌≤◌, false, List, [], ◌∷◌, ◌++◌, length, Option, Some, None, Err, ⊤}
use Rattle.std.specs.Io.KnownBytes.{Consumes}
use Rattle.text_lines.specs.Line.{HasNoLineFeed}
use Rattle.gateway_book.specs.declared.loading.LoadFault.{LoadFault}
use Rattle.gateway_book.specs.declared.loading.LoadFault.TheVariants.{Read, Syntax, NoMemory}
use Rattle.gateway_book.specs.declared.saved_line.Entry.{Entry}
use Rattle.gateway_book.specs.Loading.{Loaded, is_line, lines_between, gateway_lines, members_in, after_entry}
use Rattle.gateway_book.specs.Saved.{Saved}

-- How a saved text is read line by line: what the bytes say is told from what the bytes after a line say.

-- the line was taken off the front, with its line feed
pub record TakesLine (before after : Option (List ℕ)) (line : List ℕ) : Type 0 where
  pub consumed : Consumes before after (line ++ 10 ∷ [])
  pub unbroken : HasNoLineFeed line
  pub short : length line ≤ 80

-- the first of the parts is no line, if there is one
abbrev pub IsNoLine : List (List ℕ) → Type 0
IsNoLine [] = ⊤
IsNoLine (line ∷ more) = is_line line more ≡ false

abbrev pub HasNoLine : Option (List ℕ) → Type 0
HasNoLine None = ⊤
HasNoLine (Some bytes) = IsNoLine (lines_between bytes)

-- why the line of this number was not taken
abbrev pub LacksLine : ℕ → Option (List ℕ) → LoadFault → Type 0
LacksLine number before Read = ⊤
LacksLine number before (Syntax line) = (line ≡ number) × HasNoLine before
LacksLine number before _ = ⊥

-- what bytes say that follow the line of the version
abbrev pub gateway_from : ℕ → List ℕ → Loaded
gateway_from version bytes = gateway_lines version (lines_between bytes)

-- what bytes say from the line of this number on
abbrev pub members_from : ℕ → Saved → List ℕ → Loaded
members_from number s bytes = members_in number s (lines_between bytes)

-- what bytes say that follow this line
abbrev pub entry_then : ℕ → Saved → Entry → List ℕ → Loaded
entry_then number s entry bytes =
    after_entry number s (lines_between bytes) (λ t. members_in (number + 1) t (lines_between bytes)) (Some entry)

-- so many bytes were taken off the front, and whatever follows them, what all say is what those say that follow
pub record Leads (before after : Option (List ℕ)) (count : ℕ) (all following : List ℕ → Loaded) : Type 0 where
  pub front : List ℕ
  pub consumed : Consumes before after front
  pub counted : length front ≡ count
  pub says : (more : List ℕ) → all (front ++ more) ≡ following more

-- the fault is that of the bytes, unless a read failed
abbrev pub Faults : Loaded → LoadFault → Type 0
Faults said Read = ⊤
Faults said NoMemory = ⊥
Faults said fault = said ≡ Err fault

-- a fault is the one that the bytes say, where the reader tells what it has left
abbrev pub IsFault : (List ℕ → Loaded) → Option (List ℕ) → LoadFault → Type 0
IsFault all None fault = ⊤
IsFault all (Some bytes) fault = Faults (all bytes) fault

-- so many bytes were taken off the front
abbrev pub TakesBytes : Option (List ℕ) → Option (List ℕ) → ℕ → Type 0
TakesBytes before after count = (front : List ℕ) × Consumes before after front × (length front ≡ count)
