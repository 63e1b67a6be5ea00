use Rattle.std.specs.Prelude.{ℕ, ◌≡◌, ◌⊎◌, ◌+◌, Bool, true, false, ⊤, List, [], ◌∷◌, ◌++◌, length, map}
use Rattle.std.specs.Prelude.{Ok}
use Rattle.std.specs.List.{list_all, All}
use Rattle.std.proofs.Common.{refl, sym, ap, ◌∙◌, append_assoc, append-nil, inl, inr}
use Rattle.std.proofs.lemmas.Bool.{and_from}
use Rattle.std.proofs.lemmas.List.Elements.{All-head, All-tail}
use Rattle.text_lines.specs.Line.{text_of, text_of-append}
use Rattle.serve_journal.specs.declared.entry.Entry.{Entry}
use Rattle.serve_journal.specs.EntryText.{entry_text}
use Rattle.serve_journal.specs.LineLaws.{IsEntry}
use Rattle.serve_journal.specs.Journal.{Journal}
use Rattle.serve_journal.specs.Lines.{behind, lines_of, end_line, batches_of}
use Rattle.serve_journal.specs.Reading.{is_entry, and_then, first_lines, read_lines, read_batches, read_all, journal_of}
use Rattle.serve_journal.specs.Renewal.{head_line}
use Rattle.serve_journal.specs.Torn.{batch_lines, batches_lines, batch_text, journal_text, TornIsDropped}
use Rattle.serve_journal.proofs.ReadBack.{read_back}
use Rattle.serve_journal.proofs.TornLaws.{NoFeed, Fate, Open, Spoilt, Whole, fate, first_line, line_of_entry, no_end_begun, begins_entry}

-- What is read of a journal with a torn batch behind it.

-- lines of a text of lines
abbrev AreUnbroken : List (List ℕ) → Type 0
AreUnbroken [] = ⊤
AreUnbroken (line ∷ lines) = NoFeed line × AreUnbroken lines

unbroken_append : (xs ys : List (List ℕ)) → AreUnbroken xs → AreUnbroken ys → AreUnbroken (xs ++ ys)
unbroken_append [] ys n m = m
unbroken_append (x ∷ xs) ys n m = (n.0, unbroken_append xs ys n.1 m)

lines_behind : (lines : List (List ℕ)) (rest : List ℕ) → AreUnbroken lines → lines_of (text_of lines ++ rest) ≡ lines ++ lines_of rest
lines_behind [] rest n = refl
lines_behind (line ∷ lines) rest n =
    ap lines_of (append_assoc line (10 ∷ text_of lines) rest)
    ∙ first_line line (text_of lines ++ rest) n.0
    ∙ ap (λ (l : List (List ℕ)). line ∷ l) (lines_behind lines rest n.1)

entries_unbroken : (entries : List Entry) → All IsEntry entries → AreUnbroken (map entry_text entries)
entries_unbroken [] are = tt
entries_unbroken (e ∷ es) are =
    (line_of_entry e (All-head IsEntry e es are), entries_unbroken es (All-tail IsEntry e es are))

batch_unbroken : (entries : List Entry) → All IsEntry entries → AreUnbroken (batch_lines entries)
batch_unbroken entries are = unbroken_append (map entry_text entries) (end_line ∷ []) (entries_unbroken entries are) ((refl, tt), tt)

batches_unbroken : (batches : List (List Entry)) → All (All IsEntry) batches → AreUnbroken (batches_lines batches)
batches_unbroken [] are = tt
batches_unbroken (batch ∷ more) are =
    unbroken_append (batch_lines batch) (batches_lines more) (batch_unbroken batch (All-head (All IsEntry) batch more are))
    (batches_unbroken more (All-tail (All IsEntry) batch more are))

-- the batches of such lines
batch_before : (entries : List Entry) (rest : List (List ℕ)) → batches_of (batch_lines entries ++ rest) ≡ map entry_text entries ∷ batches_of rest
batch_before [] rest = refl
batch_before (e ∷ es) rest = rw (no_end_begun (entry_text e) (begins_entry e), batch_before es rest) refl

batches_before : (batches : List (List Entry)) (rest : List (List ℕ))
    → batches_of (batches_lines batches ++ rest) ≡ map (map entry_text) batches ++ batches_of rest
batches_before [] rest = refl
batches_before (batch ∷ more) rest =
    ap batches_of (append_assoc (batch_lines batch) (batches_lines more) rest)
    ∙ batch_before batch (batches_lines more ++ rest)
    ∙ ap (λ (l : List (List (List ℕ))). map entry_text batch ∷ l) (batches_before more rest)

are_entries : (entries : List Entry) → All IsEntry entries → list_all is_entry (map entry_text entries) ≡ true
are_entries [] are = refl
are_entries (e ∷ es) are =
    and_from (is_entry (entry_text e)) (list_all is_entry (map entry_text es))
    (rw (read_back e (All-head IsEntry e es are)) refl) (are_entries es (All-tail IsEntry e es are))

-- a torn batch at the end changes nothing of what is read
torn_by : (number : ℕ) (j : Journal) (b : List (List ℕ)) (t : Bool) → list_all is_entry b ≡ t → t ≡ false
    → read_batches number j (b ∷ []) ≡ Ok j
torn_by number j b t e f = rw (e ∙ f) refl

whole_by : (number : ℕ) (j : Journal) (entries : List Entry) (more : List (List (List ℕ))) → All IsEntry entries
    → read_batches number j (map entry_text entries ∷ more)
    ≡ and_then (read_lines number j (map entry_text entries))
    (λ k. read_batches (number + length (map entry_text entries) + 1) k more)
whole_by number j entries [] are = rw (are_entries entries are) refl
whole_by number j entries (next ∷ more) are = refl

dropped : (number : ℕ) (j : Journal) (batches : List (List Entry)) (b : List (List ℕ)) → All (All IsEntry) batches
    → list_all is_entry b ≡ false
    → read_batches number j (map (map entry_text) batches ++ b ∷ []) ≡ read_batches number j (map (map entry_text) batches)
dropped number j [] b are e = torn_by number j b (list_all is_entry b) refl e
dropped number j (batch ∷ more) b are e =
    let is = All-head (All IsEntry) batch more are in
    whole_by number j batch (map (map entry_text) more ++ b ∷ []) is
    ∙ (λ i. and_then (read_lines number j (map entry_text batch))
    (λ k. dropped (number + length (map entry_text batch) + 1) k more b (All-tail (All IsEntry) batch more are) e i))
    ∙ sym (whole_by number j batch (map (map entry_text) more) is)

-- what is read of the journal, and of what stands behind it
module _ (first : List Entry) (more : List (List Entry)) (are : All (All IsEntry) (first ∷ more)) where
  first_batch : List (List ℕ)
  first_batch = head_line ∷ map entry_text first

  head_unbroken : NoFeed head_line
  head_unbroken = (refl, (refl, (refl, (refl, (refl, (refl, (refl, (refl, (refl, (refl, (refl, (refl, (refl, (refl, (refl, (refl, (refl, tt)))))))))))))))))

  whole_lines : (rest : List ℕ) → lines_of (journal_text (first ∷ more) ++ rest)
      ≡ (head_line ∷ batches_lines (first ∷ more)) ++ lines_of rest
  whole_lines rest =
      lines_behind (head_line ∷ batches_lines (first ∷ more)) rest (head_unbroken, batches_unbroken (first ∷ more) are)

  whole_batches : (rest : List (List ℕ)) → batches_of ((head_line ∷ batches_lines (first ∷ more)) ++ rest)
      ≡ (head_line ∷ map entry_text first) ∷ (map (map entry_text) more ++ batches_of rest)
  whole_batches rest =
      ap (behind head_line) (batches_before (first ∷ more) rest)

  read_whole : (rest : List ℕ) → journal_of (journal_text (first ∷ more) ++ rest)
      ≡ and_then (first_lines (head_line ∷ map entry_text first))
      (λ j. read_batches (length (head_line ∷ map entry_text first) + 2) j
      (map (map entry_text) more ++ batches_of (lines_of rest)))
  read_whole rest =
      ap (λ (l : List (List ℕ)). read_all (length l) (batches_of l)) (whole_lines rest)
      ∙ ap (read_all (length ((head_line ∷ batches_lines (first ∷ more)) ++ lines_of rest)))
      (whole_batches (lines_of rest))

  pub read_alone : journal_of (journal_text (first ∷ more))
      ≡ and_then (first_lines (head_line ∷ map entry_text first))
      (λ j. read_batches (length (head_line ∷ map entry_text first) + 2) j (map (map entry_text) more))
  read_alone =
      ap journal_of (sym (append-nil (journal_text (first ∷ more))))
      ∙ read_whole []
      ∙ ap (λ (l : List (List (List ℕ))). and_then (first_lines (head_line ∷ map entry_text first))
      (λ j. read_batches (length (head_line ∷ map entry_text first) + 2) j l))
      (append-nil (map (map entry_text) more))

  module _ (batch : List Entry) (front : List ℕ) where
    with_batch : journal_text (first ∷ more) ++ batch_text batch ≡ journal_text (first ∷ more ++ batch ∷ [])
    with_batch =
        sym (text_of-append (head_line ∷ batches_lines (first ∷ more)) (batch_lines batch))
        ∙ ap (λ (l : List (List ℕ)). text_of (head_line ∷ l))
        (append_assoc (batch_lines first) (batches_lines more) (batch_lines batch)
        ∙ ap (λ (l : List (List ℕ)). batch_lines first ++ l) (one_more more))
      where
        one_more : (bs : List (List Entry)) → batches_lines bs ++ batch_lines batch ≡ batches_lines (bs ++ batch ∷ [])
        one_more [] = sym (append-nil (batch_lines batch))
        one_more (b ∷ bs) =
            append_assoc (batch_lines b) (batches_lines bs) (batch_lines batch) ∙ ap (λ (l : List (List ℕ)). batch_lines b ++ l) (one_more bs)

    nothing_more : batches_of (lines_of front) ≡ [] → journal_of (journal_text (first ∷ more) ++ front) ≡ journal_of (journal_text (first ∷ more))
    nothing_more e =
        read_whole front
        ∙ ap (λ (l : List (List (List ℕ))). and_then (first_lines (head_line ∷ map entry_text first))
        (λ j. read_batches (length (head_line ∷ map entry_text first) + 2) j l))
        (ap (λ (l : List (List (List ℕ))). map (map entry_text) more ++ l) e ∙ append-nil (map (map entry_text) more))
        ∙ sym read_alone

    spoilt_more : (b : List (List ℕ)) → batches_of (lines_of front) ≡ b ∷ [] → list_all is_entry b ≡ false
        → journal_of (journal_text (first ∷ more) ++ front) ≡ journal_of (journal_text (first ∷ more))
    spoilt_more b e k =
        read_whole front
        ∙ ap (λ (l : List (List (List ℕ))). and_then (first_lines (head_line ∷ map entry_text first))
        (λ j. read_batches (length (head_line ∷ map entry_text first) + 2) j (map (map entry_text) more ++ l))) e
        ∙ (λ i. and_then (first_lines (head_line ∷ map entry_text first))
        (λ j. dropped (length (head_line ∷ map entry_text first) + 2) j more b (All-tail (All IsEntry) first more are) k i))
        ∙ sym read_alone

    by_fate : Fate (map entry_text batch) [] front
        → (journal_of (journal_text (first ∷ more) ++ front) ≡ journal_of (journal_text (first ∷ more)))
        ⊎ (journal_of (journal_text (first ∷ more) ++ front) ≡ journal_of (journal_text (first ∷ more ++ batch ∷ [])))
    by_fate (Open e) = inl (nothing_more e)
    by_fate (Spoilt b e k) = inl (spoilt_more b e k)
    by_fate (Whole none same is) =
        inr (ap (λ (l : List ℕ). journal_of (journal_text (first ∷ more) ++ l)) same ∙ ap journal_of with_batch)

pub torn_is_dropped : TornIsDropped
torn_is_dropped first more batch front are own t =
    by_fate first more are batch front (fate batch own [] front (inl refl) t)
