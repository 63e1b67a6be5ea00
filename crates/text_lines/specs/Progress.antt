-- How far lines were read and answered. What stands is told by a predicate on the states that turns speak of.
use Rattle.std.specs.Prelude.{◌≡◌, ℕ, ◌+◌, ◌≤◌, Bool, List, ◌++◌, length, All, Option, Some, None, Result, ⊤, IfOk, OnOk, OnErr}
use Rattle.std.specs.Io.KnownBytes.{Consumes}
use Rattle.std.specs.Str.Lines.{lines}
use Rattle.text_lines.specs.Line.{text_of}
use Rattle.text_lines.specs.Turns.{Turns, has_refusal, reached, answers}
use Rattle.text_lines.specs.Writing.{WritesAllBut, WritesFront}
use Rattle.text_lines.specs.Ahead.{most_input}

-- from `s` on, the line of this number was answered by this text; `refused` says whether a line of it begins with `no` or `bad`
pub record IsAnswer {S : Type 0} (turns : Turns S) (s : S) (Now : S → Type 0) (number : ℕ) (line text : List ℕ)
    (refused : Bool) : Type 0 where
  pub starved : Bool
  pub is_text : text ≡ text_of (turns.answer starved number s line)
  pub told : refused ≡ has_refusal (turns.answer starved number s line)
  pub stands : Now (turns.after starved s line)

-- the same, and the text was written or is pending
pub record IsPut {S E : Type 0} (turns : Turns S) (s : S) (Now : S → Type 0) (number : ℕ) (line pending pending_after : List ℕ)
    (before after : Option (List ℕ)) (result : Result Bool E) : Type 0 where
  pub starved : Bool
  pub written : OnOk result (WritesAllBut before after (pending ++ text_of (turns.answer starved number s line)) pending_after)
  pub front : OnErr result (WritesFront before after (pending ++ text_of (turns.answer starved number s line)))
  pub told : IfOk result (λ refused. refused ≡ has_refusal (turns.answer starved number s line))
  pub stands : Now (turns.after starved s line)

-- from `s` on, the lines `read` were answered, and the answers were written or are pending
pub record AreAnswered {S : Type 0} (turns : Turns S) (s : S) (Now : S → Type 0) (refused : Bool)
    (before after : Option (List ℕ)) (pending : List ℕ) (read : List (List ℕ)) : Type 0 where
  pub starved : List ℕ
  pub earlier : All (λ other. other ≤ length read) starved
  pub stands : Now (reached turns starved 1 s read)
  pub told : refused ≡ has_refusal (answers turns starved 1 s read)
  pub written : WritesAllBut before after (text_of (answers turns starved 1 s read)) pending

module _ {S : Type 0} (turns : Turns S) (Old : S → Type 0) where
  -- the same from all that may have stood at first
  abbrev pub IsTurn : (S → Type 0) → ℕ → List ℕ → List ℕ → Bool → Type 0
  IsTurn Now number line text refused = (s : S) → Old s → IsAnswer turns s Now number line text refused

  abbrev pub IsTurnPut : {E : Type 0} → (S → Type 0) → ℕ → List ℕ → List ℕ → List ℕ → Option (List ℕ) → Option (List ℕ)
      → Result Bool E → Type 0
  IsTurnPut Now number line pending pending_after before after result =
      (s : S) → Old s → IsPut turns s Now number line pending pending_after before after result

  abbrev pub AreTurns : (S → Type 0) → Bool → Option (List ℕ) → Option (List ℕ) → List ℕ → List (List ℕ) → Type 0
  AreTurns Now refused before after pending read =
      (s : S) → Old s → AreAnswered turns s Now refused before after pending read

  -- a front of the answers to these lines was written
  abbrev pub AreTurnsInPart : Option (List ℕ) → Option (List ℕ) → List (List ℕ) → Type 0
  AreTurnsInPart before after read =
      (s : S) → Old s → (starved : List ℕ) × WritesFront before after (text_of (answers turns starved 1 s read))

-- all these bytes were read, behind so many that were taken before, and this holds of their lines
pub record IsWholly (taken : ℕ) (bytes : List ℕ) (left_after : Option (List ℕ)) (Holds : List (List ℕ) → Type 0) : Type 0 where
  pub consumed : Consumes (Some bytes) left_after bytes
  pub within : taken + length bytes ≤ most_input
  pub holds : Holds (lines bytes)

-- this holds of the first lines of these bytes, which are also the first of the bytes that were read
pub record IsInPart (bytes : List ℕ) (left_after : Option (List ℕ)) (Holds : List (List ℕ) → Type 0) : Type 0 where
  pub read : List ℕ
  pub consumed : Consumes (Some bytes) left_after read
  pub first : List (List ℕ)
  pub more : List (List ℕ)
  pub more_read : List (List ℕ)
  pub of_all : lines bytes ≡ first ++ more
  pub of_read : lines read ≡ first ++ more_read
  pub holds : Holds first

-- the same two where the reader tells what it has left
abbrev pub ReadsAll : ℕ → Option (List ℕ) → Option (List ℕ) → (List (List ℕ) → Type 0) → Type 0
ReadsAll taken None left_after Holds = ⊤
ReadsAll taken (Some bytes) left_after Holds = IsWholly taken bytes left_after Holds

-- and of such a part of the input, after a fault
abbrev pub ReadsPart : Option (List ℕ) → Option (List ℕ) → (List (List ℕ) → Type 0) → Type 0
ReadsPart None left_after Holds = ⊤
ReadsPart (Some bytes) left_after Holds = IsInPart bytes left_after Holds
