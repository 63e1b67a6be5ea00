use Rattle.std.specs.Prelude.{◌≡◌, ◌<◌, ◌≤◌, ℕ, Bool, true, false, List, length, codes, Option, Some, None, Result, Ok, Err, IsOk}
use Rattle.std.specs.Prelude.{⊤}
use Rattle.std.specs.Option.{option_map}
use Rattle.text_lines.specs.Promise.{AnswersWhole, AnswersInPart, AnswersSoFar}
use Rattle.text_lines.specs.Ahead.{most_input}
use Rattle.gateway_book.specs.Answer.{Rules}
use Rattle.gateway_book.specs.Loading.{loaded, HasMembers}
use Rattle.gateway_book.specs.declared.loading.LoadFault.{LoadFault}
use Rattle.gateway_book.specs.declared.loading.LoadFault.TheVariants.{Read as LoadRead, NoMemory as LoadNoMemory}
use Rattle.gateway_book.specs.declared.loading.LoadFault.TheVariants.{Syntax, Version, Unlawful}
use Rattle.gateway_book.specs.declared.opening.TheConstants.{MAX_CAP, MAX_GAP}
use Rattle.gateway_book.specs.Opening.{name_of, open_fault}
use Rattle.text_words.specs.declared.fault.TextFault.{TextFault}
use Rattle.text_words.specs.declared.fault.TextFault.TheVariants.{Read, TooMuch, Settings, NoMemory}
use Rattle.book_texts.specs.Opening.{book_output}

-- What the text of a book promises of a reader and a writer that tell their bytes.

module _ (resume saves : Bool) (rules : Rules) where
  -- all bytes were read, the writer took the output for them, and the flag says whether a line of it begins with `no` or `bad`
  abbrev pub AnswersAll : Option (List ℕ) → Option (List ℕ) → Option (List ℕ) → Option (List ℕ) → Bool → Type 0
  AnswersAll = AnswersWhole (book_output resume saves rules)

  -- the writer took a front of the output for all bytes
  abbrev pub AnswersFront : Option (List ℕ) → Option (List ℕ) → Option (List ℕ) → Type 0
  AnswersFront = AnswersInPart (book_output resume saves rules)

  -- the writer took a front of the output for the bytes that were read
  abbrev pub AnswersRead : Option (List ℕ) → Option (List ℕ) → Option (List ℕ) → Option (List ℕ) → Type 0
  AnswersRead = AnswersSoFar (book_output resume saves rules)

-- the input's length, where it is known: at most 2^28 bytes on `Ok`, and more where `TooMuch` is answered
abbrev pub KeepsLimit : Option (List ℕ) → Result Bool TextFault → Type 0
KeepsLimit None result = ⊤
KeepsLimit (Some bytes) (Ok _) = length bytes ≤ most_input
KeepsLimit (Some bytes) (Err TooMuch) = most_input < length bytes
KeepsLimit (Some bytes) (Err _) = ⊤

-- what a book may be opened with
abbrev pub MayOpen : Rules → Type 0
MayOpen rules = (1 ≤ rules.cap) × (rules.cap ≤ MAX_CAP) × (rules.gap ≤ MAX_GAP)

-- `Settings` comes exactly where no book may be opened, and names what is wrong; `NoMemory` never comes
abbrev pub IsSettingOf : Rules → Result Bool TextFault → Type 0
IsSettingOf rules (Err (Settings name)) = (¬ MayOpen rules) × (option_map name_of (open_fault rules) ≡ Some name.now)
IsSettingOf rules (Err NoMemory) = ⊥
IsSettingOf rules _ = MayOpen rules

-- no book may be opened, and the fault names what is wrong
abbrev pub IsRulesFault : Rules → TextFault → Type 0
IsRulesFault rules (Settings name) = IsSettingOf rules (Err (Settings name))
IsRulesFault rules _ = ⊥

-- the name that a program prints of a saved book's fault
abbrev pub load_name : LoadFault → List ℕ
load_name LoadRead = codes "Read"
load_name (Syntax line) = codes "Syntax"
load_name Version = codes "Version"
load_name (Unlawful line) = codes "Unlawful"
load_name LoadNoMemory = codes "NoMemory"

-- what is told of it
abbrev pub IsFaultOf : LoadFault → TextFault → Type 0
IsFaultOf LoadRead made = made ≡ Read
IsFaultOf LoadNoMemory made = made ≡ NoMemory
IsFaultOf fault (Settings name) = load_name fault ≡ name.now
IsFaultOf _ _ = ⊥

-- the bytes begin with no saved book, and this names why
abbrev pub IsUnloadable : List ℕ → List ℕ → Type 0
IsUnloadable bytes name = (fault : LoadFault) × (loaded bytes ≡ Err fault) × (load_name fault ≡ name)

-- where the input is to begin with a saved book: `Settings` comes where it does not, and names what is wrong; `NoMemory` where
-- that book has members; and but for these and `Read` the input begins with one
abbrev pub IsLoadingOf : Option (List ℕ) → Result Bool TextFault → Type 0
IsLoadingOf None result = ⊤
IsLoadingOf (Some bytes) (Err (Settings name)) = IsUnloadable bytes name.now
IsLoadingOf (Some bytes) (Err NoMemory) = HasMembers bytes
IsLoadingOf (Some bytes) (Err Read) = ⊤
IsLoadingOf (Some bytes) _ = IsOk (loaded bytes)

-- the same by whether the input is to begin with one
abbrev pub IsOpeningOf : Bool → Rules → Option (List ℕ) → Result Bool TextFault → Type 0
IsOpeningOf true rules left result = IsLoadingOf left result
IsOpeningOf false rules left result = IsSettingOf rules result

-- what a fault says of a book that was never opened
abbrev pub is_unopened : TextFault → Bool
is_unopened (Settings name) = true
is_unopened NoMemory = true
is_unopened _ = false
