use Rattle.std.specs.Prelude.{ℕ, ◌≡◌, ◌⊎◌, ⊤, List, [], ◌∷◌, ◌++◌, map}
use Rattle.std.specs.List.{All}
use Rattle.text_lines.specs.Line.{text_of}
use Rattle.serve_journal.specs.declared.entry.Entry.{Entry}
use Rattle.serve_journal.specs.EntryText.{entry_text}
use Rattle.serve_journal.specs.LineLaws.{IsEntry}
use Rattle.serve_journal.specs.Lines.{end_line}
use Rattle.serve_journal.specs.Reading.{journal_of}
use Rattle.serve_journal.specs.Renewal.{head_line}

-- What a journal says whose last batch was being written when the power went.

-- the lines of a batch, and of a journal with these batches
abbrev pub batch_lines : List Entry → List (List ℕ)
batch_lines entries = map entry_text entries ++ end_line ∷ []

abbrev pub batches_lines : List (List Entry) → List (List ℕ)
batches_lines [] = []
batches_lines (batch ∷ more) = batch_lines batch ++ batches_lines more

abbrev pub batch_text : List Entry → List ℕ
batch_text entries = text_of (batch_lines entries)

abbrev pub journal_text : List (List Entry) → List ℕ
journal_text batches = text_of (head_line ∷ batches_lines batches)

-- what a disk may have of bytes that were to be written behind others: a front of them, any of which are 0
abbrev pub IsTornOf : List ℕ → List ℕ → Type 0
IsTornOf whole [] = ⊤
IsTornOf [] (byte ∷ front) = ⊥
IsTornOf (own ∷ whole) (byte ∷ front) = ((byte ≡ 0) ⊎ (byte ≡ own)) × IsTornOf whole front

-- the law: behind a journal of some batches it is read as the whole batch, or as nothing
abbrev pub TornIsDropped : Type 0
TornIsDropped =
    (first : List Entry) (more : List (List Entry)) (batch : List Entry) (front : List ℕ) →
    All (All IsEntry) (first ∷ more) →
    All IsEntry batch →
    IsTornOf (batch_text batch) front →
    (journal_of (journal_text (first ∷ more) ++ front) ≡ journal_of (journal_text (first ∷ more)))
    ⊎ (journal_of (journal_text (first ∷ more) ++ front) ≡ journal_of (journal_text (first ∷ more ++ batch ∷ [])))
