use Rattle.std.specs.Prelude.{◌≡◌, ℕ, ◌+◌, ◌^◌, ◌==◌, Bool, false, ◌&&◌, not, is_some, if◌then◌else◌, List, [], ◌∷◌, length, codes}
use Rattle.std.specs.Prelude.{Option, Some, None, option_and_then, Result, Ok, Err, ⊤}
use Rattle.std.specs.List.{list_all}
use Rattle.text_lines.specs.Words.{is_named}
use Rattle.gateway_book.specs.Loading.{words_between, plain_number}
use Rattle.serve_journal.specs.declared.fault.JournalFault.{JournalFault}
use Rattle.serve_journal.specs.declared.fault.JournalFault.TheVariants.{NoHead, Version, NoBatch, Journal, NoMemory}
use Rattle.serve_journal.specs.EntryWords.{entry_of}
use Rattle.serve_journal.specs.Journal as state
use Rattle.serve_journal.specs.Lines.{lines_of, batches_of}

-- What the bytes of a journal say.

-- what was read, or the fault
abbrev pub Said : Type 0
Said = Result state.Journal JournalFault

-- VERSION of a line `airbook journal VERSION`
abbrev pub version_in : List (List ℕ) → Option ℕ
version_in (name ∷ kind ∷ version ∷ []) =
    if is_named (codes "airbook") name && is_named (codes "journal") kind then plain_number (2 ^ 32) version else None
version_in _ = None

-- why the first line is none of a journal that is read
abbrev pub version_fault : Option ℕ → Option JournalFault
version_fault None = Some NoHead
version_fault (Some version) = if version == 1 then None else Some Version

abbrev pub head_fault : List ℕ → Option JournalFault
head_fault line = version_fault (version_in (words_between line))

-- a line is spelled as one that is written
abbrev pub is_entry : List ℕ → Bool
is_entry line = is_some (entry_of line)

-- what the lines of a batch say behind those before them, the first of which has this number; or the first at fault
abbrev pub read_on : ℕ → Option state.Journal → (state.Journal → Said) → Said
read_on number None next = Err (Journal number)
read_on number (Some j) next = next j

abbrev pub read_lines : ℕ → state.Journal → List (List ℕ) → Said
read_lines number j [] = Ok j
read_lines number j (line ∷ more) =
    read_on number (option_and_then (state.after_entry j) (entry_of line)) (λ k. read_lines (number + 1) k more)

-- the last batch counts for nothing where a line of it is malformed: it was written when the server was killed
abbrev pub is_torn : List (List ℕ) → List (List (List ℕ)) → Bool
is_torn batch [] = not (list_all is_entry batch)
is_torn batch (next ∷ more) = false

abbrev pub and_then : Said → (state.Journal → Said) → Said
and_then (Ok j) next = next j
and_then (Err fault) next = Err fault

-- what the batches behind the first say, the first line of which has this number
abbrev pub read_batches : ℕ → state.Journal → List (List (List ℕ)) → Said
read_batches number j [] = Ok j
read_batches number j (batch ∷ more) =
    if is_torn batch more then Ok j
    else and_then (read_lines number j batch) (λ k. read_batches (number + length batch + 1) k more)

-- the first batch begins with the line of the version
abbrev pub read_headed : Option JournalFault → List (List ℕ) → Said
read_headed (Some fault) lines = Err fault
read_headed None lines = read_lines 2 state.nothing lines

abbrev pub first_lines : List (List ℕ) → Said
first_lines [] = Err NoHead
first_lines (head ∷ lines) = read_headed (head_fault head) lines

-- what all batches say, of a file with so many lines
abbrev pub read_all : ℕ → List (List (List ℕ)) → Said
read_all count [] = Err (NoBatch (count + 1))
read_all count (batch ∷ more) = and_then (first_lines batch) (λ j. read_batches (length batch + 2) j more)

-- what the bytes say: what stands behind the last `.` line counts for nothing
abbrev pub journal_of : List ℕ → Said
journal_of bytes = read_all (length (lines_of bytes)) (batches_of (lines_of bytes))

-- a fault is the one that the bytes say; no definition says how much memory there is
abbrev pub IsFault : Said → JournalFault → Type 0
IsFault said NoMemory = ⊤
IsFault said fault = said ≡ Err fault
