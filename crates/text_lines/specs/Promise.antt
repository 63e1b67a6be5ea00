-- What a text promises of a reader and a writer that tell their bytes. `output` is a function of the numbers of those lines
-- that found no memory, and of the bytes of the input, or of its lines.
use Rattle.std.specs.Prelude.{◌≡◌, ◌<◌, ◌≤◌, ◌+◌, ℕ, Bool, true, false, List, [], length, refl, Option, Some, None, Result, Ok}
use Rattle.std.specs.Prelude.{Err, ⊤}
use Rattle.std.specs.Io.KnownBytes.{Appends, Consumes}
use Rattle.std.specs.Str.Lines.{lines}
use Rattle.text_lines.specs.Calls.{CountsWhere}
use Rattle.text_lines.specs.Line.{text_of}
use Rattle.text_lines.specs.Turns.{has_refusal}
use Rattle.text_lines.specs.Writing.{WritesFront, WritesAllBut-refl}
use Rattle.text_lines.specs.Ahead.{most_input}
use Rattle.text_lines.specs.declared.answering.LineFault.{LineFault}
use Rattle.text_lines.specs.declared.answering.LineFault.TheVariants.{Read, Write, TooMuch}

-- all these bytes were read, the writer took the output for them, and `refused` says whether a line of it begins
-- with `no` or `bad`
pub record IsAnswered (output : List ℕ → List ℕ → List (List ℕ)) (bytes : List ℕ)
    (left_after before after : Option (List ℕ)) (refused : Bool) : Type 0 where
  pub starved : List ℕ
  pub consumed : Consumes (Some bytes) left_after bytes
  pub written : Appends before after (text_of (output starved bytes))
  pub told : refused ≡ has_refusal (output starved bytes)

-- the writer took a front of the output for these bytes
pub record IsAnsweredInPart (output : List ℕ → List ℕ → List (List ℕ)) (bytes : List ℕ)
    (before after : Option (List ℕ)) : Type 0 where
  pub starved : List ℕ
  pub written : WritesFront before after (text_of (output starved bytes))

-- the writer took a front of the output for the bytes that were read
pub record IsAnsweredSoFar (output : List ℕ → List ℕ → List (List ℕ)) (bytes : List ℕ)
    (left_after before after : Option (List ℕ)) : Type 0 where
  pub read : List ℕ
  pub consumed : Consumes (Some bytes) left_after read
  pub answered : IsAnsweredInPart output read before after

module _ (output : List ℕ → List ℕ → List (List ℕ)) where
  -- the same three where the reader tells what it has left
  abbrev pub AnswersWhole : Option (List ℕ) → Option (List ℕ) → Option (List ℕ) → Option (List ℕ) → Bool → Type 0
  AnswersWhole None left_after before after refused = ⊤
  AnswersWhole (Some bytes) left_after before after refused = IsAnswered output bytes left_after before after refused

  abbrev pub AnswersInPart : Option (List ℕ) → Option (List ℕ) → Option (List ℕ) → Type 0
  AnswersInPart None before after = ⊤
  AnswersInPart (Some bytes) before after = IsAnsweredInPart output bytes before after

  abbrev pub AnswersSoFar : Option (List ℕ) → Option (List ℕ) → Option (List ℕ) → Option (List ℕ) → Type 0
  AnswersSoFar None left_after before after = ⊤
  AnswersSoFar (Some bytes) left_after before after = IsAnsweredSoFar output bytes left_after before after

  -- a front was written where nothing was
  pub AnswersInPart-nothing : (left before : Option (List ℕ)) → AnswersInPart left before before
  AnswersInPart-nothing None before = tt
  AnswersInPart-nothing (Some bytes) before =
      record { starved = []; written = (text_of (output [] bytes), WritesAllBut-refl before _) }

  pub AnswersSoFar-nothing : (left before : Option (List ℕ)) → AnswersSoFar left left before before
  AnswersSoFar-nothing None before = tt
  AnswersSoFar-nothing (Some bytes) before =
      record { read = []; consumed = refl; answered = AnswersInPart-nothing (Some []) before }

-- an output for the lines of the bytes
abbrev pub by_lines : (List ℕ → List (List ℕ) → List (List ℕ)) → List ℕ → List ℕ → List (List ℕ)
by_lines output starved bytes = output starved (lines bytes)

-- the same where the output is one for lines
module _ (output : List ℕ → List (List ℕ) → List (List ℕ)) where
  abbrev pub AnswersAll : Option (List ℕ) → Option (List ℕ) → Option (List ℕ) → Option (List ℕ) → Bool → Type 0
  AnswersAll = AnswersWhole (by_lines output)

  abbrev pub AnswersFront : Option (List ℕ) → Option (List ℕ) → Option (List ℕ) → Type 0
  AnswersFront = AnswersInPart (by_lines output)

  abbrev pub AnswersRead : Option (List ℕ) → Option (List ℕ) → Option (List ℕ) → Option (List ℕ) → Type 0
  AnswersRead = AnswersSoFar (by_lines output)

-- the length of an input of which so many bytes were taken before, where it is known: at most 2^28 bytes on `Ok`, and more
-- where `TooMuch` is answered
abbrev pub KeepsLimitFrom : ℕ → Option (List ℕ) → Result Bool LineFault → Type 0
KeepsLimitFrom taken None result = ⊤
KeepsLimitFrom taken (Some bytes) (Ok _) = taken + length bytes ≤ most_input
KeepsLimitFrom taken (Some bytes) (Err TooMuch) = most_input < taken + length bytes
KeepsLimitFrom taken (Some bytes) (Err _) = ⊤

-- the same of a whole input: `Ok` of at most 2^28 bytes, `TooMuch` of more
abbrev pub KeepsLimit : Option (List ℕ) → Result Bool LineFault → Type 0
KeepsLimit left result = KeepsLimitFrom 0 left result

abbrev pub is_read : LineFault → Bool
is_read Read = true
is_read _ = false

abbrev pub is_write : LineFault → Bool
is_write Write = true
is_write _ = false

-- a call of the reader failed exactly where `Read` is answered
abbrev pub CountsReads : {T : Type 0} → ℕ → ℕ → Result T LineFault → Type 0
CountsReads old new result = CountsWhere is_read old new result

-- a call of the writer failed exactly where `Write` is answered
abbrev pub CountsWrites : {T : Type 0} → ℕ → ℕ → Result T LineFault → Type 0
CountsWrites old new result = CountsWhere is_write old new result
