use Rattle.std.proofs.Common.{◌≡◌, ℕ, ◌+◌, ◌≤◌, true, cond, leb, ltb, ◌||◌, List, [], ◌∷◌, ◌++◌, length, Option}
use Rattle.std.proofs.Common.{None, Some, Err, refl, ap, ◌∙◌, arith, append_assoc, eqb}
use Rattle.std.proofs.lemmas.Bool.{ne_eqb, le-leb, lt-ltb, and_from}
use Rattle.std.proofs.lemmas.List.{length_push, length-append}
use Rattle.std.proofs.lemmas.List.Splits.{slice_split_at, length-slice_split}
use Rattle.std.proofs.KnownBytes.{Consumes-trans}
use Rattle.std.specs.Prelude.{is_some}
use Rattle.text_lines.specs.Line.{HasNoLineFeed}
use Rattle.gateway_book.specs.declared.loading.LoadFault.{LoadFault}
use Rattle.gateway_book.specs.declared.loading.LoadFault.TheVariants.{Read, Syntax, Version, Unlawful, NoMemory}
use Rattle.gateway_book.specs.declared.saved_line.Entry.{Entry}
use Rattle.gateway_book.specs.declared.saved_line.SavedGateway.{SavedGateway}
use Rattle.gateway_book.specs.Opening.{open_fault}
use Rattle.gateway_book.specs.Saved.{Saved}
use Rattle.gateway_book.specs.Loading.{Loaded, is_line, lines_between, words_between, version_in, gateway_in, entry_in}
use Rattle.gateway_book.specs.Loading.{saved_empty}
use Rattle.gateway_book.specs.Loading.{after_version, after_gateway, after_entry, all_lines, gateway_lines, members_in, loaded}
use Rattle.gateway_book.specs.SavedLines.{TakesLine, gateway_from, members_from, entry_then, Leads}
use Rattle.gateway_book.specs.SavedLines.{Faults, IsFault}

-- A saved text is told line by line.

-- what follows is at fault, whatever it is
pub always_fault : (following : List ℕ → Loaded) (before : Option (List ℕ)) (fault : LoadFault)
    → ((more : List ℕ) → Faults (following more) fault) → IsFault following before fault
always_fault following None fault h = tt
always_fault following (Some x) fault h = h x

Faults-same : (one other : Loaded) (fault : LoadFault) → one ≡ other → Faults other fault → Faults one fault
Faults-same one other Read e f = tt
Faults-same one other (Syntax line) e f = e ∙ f
Faults-same one other Version e f = e ∙ f
Faults-same one other (Unlawful line) e f = e ∙ f
Faults-same one other NoMemory e f = absurd f

-- a fault of what follows is a fault of all
pub fault_after : (before after : Option (List ℕ)) (count : ℕ) (all following : List ℕ → Loaded) (fault : LoadFault)
    → Leads before after count all following → IsFault following after fault → IsFault all before fault
fault_after None after count all following fault leads h = tt
fault_after (Some x) None count all following fault leads h = absurd leads.consumed
fault_after (Some x) (Some y) count all following fault leads h =
    Faults-same (all x) (following y) fault (ap all leads.consumed ∙ leads.says y) h

-- one step after the other
pub Leads-trans : (a b c : Option (List ℕ)) (m n : ℕ) (all mid following : List ℕ → Loaded) → Leads a b m all mid
    → Leads b c n mid following → Leads a c (m + n) all following
Leads-trans a b c m n all mid following p q = record {
  front = p.front ++ q.front;
  consumed = Consumes-trans a b c p.front q.front p.consumed q.consumed;
  counted = omega (arith, length-append p.front q.front, p.counted, q.counted);
  says = λ more. ap all (append_assoc p.front q.front more) ∙ p.says (q.front ++ more) ∙ q.says more;
}

-- a line is taken
pub Leads-line : (a b : Option (List ℕ)) (line : List ℕ) (all following : List ℕ → Loaded) → TakesLine a b line
    → ((more : List ℕ) → all (line ++ 10 ∷ more) ≡ following more) → Leads a b (length line + 1) all following
Leads-line a b line all following taken h = record {
  front = line ++ 10 ∷ [];
  consumed = taken.consumed;
  counted = length_push line 10;
  says = λ more. ap all (append_assoc line (10 ∷ []) more) ∙ h more;
}

pub split_line : (line more : List ℕ) → HasNoLineFeed line → lines_between (line ++ 10 ∷ more) ≡ line ∷ lines_between more
split_line line more unbroken =
    slice_split_at (λ byte. eqb byte 10) line 10 more (λ k d h. ne_eqb _ _ (unbroken k d h)) refl

pub line_is : (line more : List ℕ) → length line ≤ 80 → is_line line (lines_between more) ≡ true
line_is line more short =
    and_from (leb (length line) 80) (ltb 0 (length (lines_between more))) (le-leb (length line) 80 short)
    (lt-ltb 0 (length (lines_between more)) (omega (arith, length-slice_split (λ byte. eqb byte 10) more)))

module _ (line more : List ℕ) (unbroken : HasNoLineFeed line) (short : length line ≤ 80) where
  pub loaded-line : loaded (line ++ 10 ∷ more) ≡ after_version (version_in (words_between line)) (lines_between more)
  loaded-line =
      ap all_lines (split_line line more unbroken)
      ∙ ap (λ t. after_version (cond t (version_in (words_between line)) None) (lines_between more)) (line_is line more short)

  pub gateway_from-line : (version : ℕ) → gateway_from version (line ++ 10 ∷ more)
      ≡ after_gateway (gateway_in version (words_between line)) (lines_between more)
  gateway_from-line version =
      ap (gateway_lines version) (split_line line more unbroken)
      ∙ ap (λ t. after_gateway (cond t (gateway_in version (words_between line)) None) (lines_between more))
      (line_is line more short)

  pub members_from-line : (number : ℕ) (s : Saved) → members_from number s (line ++ 10 ∷ more)
      ≡ after_entry number s (lines_between more) (λ t. members_in (number + 1) t (lines_between more))
      (entry_in (words_between line))
  members_from-line number s =
      ap (members_in number s) (split_line line more unbroken)
      ∙ ap (λ t. after_entry number s (lines_between more) (λ u. members_in (number + 1) u (lines_between more))
      (cond t (entry_in (words_between line)) None)) (line_is line more short)

module _ (a b : Option (List ℕ)) (line : List ℕ) (taken : TakesLine a b line) where
  -- the first line says a version
  pub version_leads : (version : ℕ) → version_in (words_between line) ≡ Some version
      → (eqb version 1 || eqb version 2) ≡ true → Leads a b (length line + 1) loaded (gateway_from version)
  version_leads version said known =
      Leads-line a b line loaded (gateway_from version) taken
      (λ more. loaded-line line more taken.unbroken taken.short ∙ ap (λ o. after_version o (lines_between more)) said
      ∙ ap (λ t. cond t (gateway_from version more) (Err Version)) known)

  -- it says none, or one that is not known
  pub version_fault : (o : Option ℕ) (fault : LoadFault) → version_in (words_between line) ≡ o
      → ((more : List (List ℕ)) → Faults (after_version o more) fault) → IsFault loaded a fault
  version_fault o fault said h =
      fault_after a b (length line + 1) loaded (λ more. after_version o (lines_between more)) fault
      (Leads-line a b line loaded (λ more. after_version o (lines_between more)) taken
      (λ more. loaded-line line more taken.unbroken taken.short ∙ ap (λ u. after_version u (lines_between more)) said))
      (always_fault (λ more. after_version o (lines_between more)) b fault (λ more. h (lines_between more)))

  -- the second line says a gateway
  pub gateway_leads : (version : ℕ) (o : Option SavedGateway) → gateway_in version (words_between line) ≡ o
      → Leads a b (length line + 1) (gateway_from version) (λ more. after_gateway o (lines_between more))
  gateway_leads version o said =
      Leads-line a b line (gateway_from version) (λ more. after_gateway o (lines_between more)) taken
      (λ more. gateway_from-line line more taken.unbroken taken.short version
      ∙ ap (λ u. after_gateway u (lines_between more)) said)

  pub gateway_opens : (version : ℕ) (g : SavedGateway) → gateway_in version (words_between line) ≡ Some g
      → open_fault (saved_empty g).rules ≡ None
      → Leads a b (length line + 1) (gateway_from version) (members_from 3 (saved_empty g))
  gateway_opens version g said opens =
      Leads-line a b line (gateway_from version) (members_from 3 (saved_empty g)) taken
      (λ more. gateway_from-line line more taken.unbroken taken.short version
      ∙ ap (λ u. after_gateway u (lines_between more)) said
      ∙ ap (λ o. cond (is_some o) (Err (Unlawful 2)) (members_from 3 (saved_empty g) more)) opens)

  pub gateway_fault : (version : ℕ) (o : Option SavedGateway) (fault : LoadFault)
      → gateway_in version (words_between line) ≡ o → ((more : List (List ℕ)) → Faults (after_gateway o more) fault)
      → IsFault (gateway_from version) a fault
  gateway_fault version o fault said h =
      fault_after a b (length line + 1) (gateway_from version) (λ more. after_gateway o (lines_between more)) fault
      (gateway_leads version o said)
      (always_fault (λ more. after_gateway o (lines_between more)) b fault (λ more. h (lines_between more)))

  -- a later line says an entry
  pub entry_leads : (number : ℕ) (s : Saved) (entry : Entry) → entry_in (words_between line) ≡ Some entry
      → Leads a b (length line + 1) (members_from number s) (entry_then number s entry)
  entry_leads number s entry said =
      Leads-line a b line (members_from number s) (entry_then number s entry) taken
      (λ more. members_from-line line more taken.unbroken taken.short number s
      ∙ ap (after_entry number s (lines_between more) (λ t. members_in (number + 1) t (lines_between more))) said)

  pub entry_fault : (number : ℕ) (s : Saved) → entry_in (words_between line) ≡ None
      → IsFault (members_from number s) a (Syntax number)
  entry_fault number s said =
      fault_after a b (length line + 1) (members_from number s) (λ more. Err (Syntax number)) (Syntax number)
      (Leads-line a b line (members_from number s) (λ more. Err (Syntax number)) taken
      (λ more. members_from-line line more taken.unbroken taken.short number s
      ∙ ap (after_entry number s (lines_between more) (λ t. members_in (number + 1) t (lines_between more))) said))
      (always_fault (λ more. Err (Syntax number)) b (Syntax number) (λ more. refl))
