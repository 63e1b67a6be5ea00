use Rattle.std.proofs.Common.{◌≡◌, ℕ, ◌+◌, List, [], ◌∷◌, ◌++◌, map, All, Option, Some, None, refl, sym, ap, ◌∙◌}
use Rattle.std.proofs.Common.{append_assoc, append-nil}
use Rattle.std.specs.Prelude.{Ok, option_and_then}
use Rattle.std.specs.List.{flat_map}
use Rattle.std.proofs.lemmas.List.Elements.{All-head, All-tail}
use Rattle.std.proofs.lemmas.Option.{same_Some}
use Rattle.serve_journal.specs.declared.entry.Entry.{Entry}
use Rattle.serve_journal.specs.EntryText.{entry_text}
use Rattle.serve_journal.specs.Journal.{Journal, after_entry}
use Rattle.serve_journal.specs.LineLaws.{IsEntry}
use Rattle.serve_journal.specs.Reading.{read_on, read_lines}
use Rattle.serve_journal.proofs.ReadBack.{read_back}

-- What a list of entries makes of a journal.

abbrev pub after_entries : Journal → List Entry → Option Journal
after_entries j [] = Some j
after_entries j (e ∷ es) = option_and_then (λ k. after_entries k es) (after_entry j e)

-- one list behind another
behind_by : (xs ys : List Entry) (o : Option Journal) (k : Journal)
    → ((i : Journal) → after_entries i xs ≡ Some k → after_entries i (xs ++ ys) ≡ after_entries k ys)
    → option_and_then (λ i. after_entries i xs) o ≡ Some k
    → option_and_then (λ i. after_entries i (xs ++ ys)) o ≡ after_entries k ys
behind_by xs ys None k rest e = absurd (cc)
behind_by xs ys (Some i) k rest e = rest i e

pub after_both : (xs ys : List Entry) (j k : Journal) → after_entries j xs ≡ Some k
    → after_entries j (xs ++ ys) ≡ after_entries k ys
after_both [] ys j k e = ap (λ i. after_entries i ys) (same_Some j k e)
after_both (x ∷ xs) ys j k e = behind_by xs ys (after_entry j x) k (λ i. after_both xs ys i k) e

pub after_one : (j k : Journal) (e : Entry) → after_entry j e ≡ Some k → after_entries j (e ∷ []) ≡ Some k
after_one j k e h = ap (option_and_then (λ i. after_entries i [])) h

-- each member of a list tells its entries, from state to state
module _ {M : Type 0} (told : M → List Entry) (whole : List M) (at : List M → List M → Journal)
    (one : (before : List M) (m : M) (after : List M) → before ++ m ∷ after ≡ whole
    → after_entries (at before (m ∷ after)) (told m) ≡ Some (at (before ++ m ∷ []) after)) where
  all_from : (before after : List M) → before ++ after ≡ whole
      → after_entries (at before after) (flat_map told after) ≡ Some (at (before ++ after) [])
  all_from before [] e = ap (λ l. Some (at l [])) (sym (append-nil before))
  all_from before (m ∷ after) e =
      let same = append_assoc before (m ∷ []) after in
      after_both (told m) (flat_map told after) (at before (m ∷ after)) (at (before ++ m ∷ []) after) (one before m after e)
      ∙ all_from (before ++ m ∷ []) after (same ∙ e)
      ∙ ap (λ l. Some (at l [])) same

  pub all_told : after_entries (at [] whole) (flat_map told whole) ≡ Some (at whole [])
  all_told = all_from [] whole refl

-- the lines of entries are read as what these make
read_by : (number : ℕ) (o : Option Journal) (k : Journal) (es : List Entry)
    → ((i : Journal) → after_entries i es ≡ Some k → read_lines (number + 1) i (map entry_text es) ≡ Ok k)
    → option_and_then (λ i. after_entries i es) o ≡ Some k
    → read_on number o (λ i. read_lines (number + 1) i (map entry_text es)) ≡ Ok k
read_by number None k es rest e = absurd (cc)
read_by number (Some i) k es rest e = rest i e

pub read_entries : (number : ℕ) (j k : Journal) (es : List Entry) → All IsEntry es → after_entries j es ≡ Some k
    → read_lines number j (map entry_text es) ≡ Ok k
read_entries number j k [] are e = ap Ok (same_Some j k e)
read_entries number j k (x ∷ es) are e =
    ap (λ o. read_on number (option_and_then (after_entry j) o) (λ i. read_lines (number + 1) i (map entry_text es)))
    (read_back x (All-head IsEntry x es are))
    ∙ read_by number (after_entry j x) k es (λ i. read_entries (number + 1) i k es (All-tail IsEntry x es are)) e
