use Rattle.std.proofs.Common.{◌≡◌, ℕ, suc, ◌+◌, ◌<◌, List, [], ◌∷◌, ◌++◌, length, map, drop, get_or, Option, sym, ap, subst, ◌∙◌}
use Rattle.std.proofs.Common.{append_assoc, add-one, drop-cons}
use Rattle.text_lines.specs.Line.{text_of, text_of-append}
use Rattle.text_lines.specs.Writing.{WritesAllBut, WritesFront, WritesAllBut-more, WritesAllBut-trans, WritesFront-more, WritesFront-after}
use Rattle.serve_journal.specs.Journal.{Journal, Mast, Node}
use Rattle.journal_sql.specs.Parts.{parts_behind}
use Rattle.journal_sql.specs.Rows.{gateway_row, device_row, queued_row, sent_row}
use Rattle.journal_sql.specs.Sql.{next_number, numbered, number_behind, queued_rows, sent_rows, table_lines, end_line, rows, sql_of}

-- How rows are put one by one, by their numbers.

-- the text of a row's line
abbrev pub line_text : List ℕ → List ℕ
line_text row = row ++ 10 ∷ []

pub each_row : {X : Type 0} (row : X → List ℕ) (x : X) (xs : List X)
    → text_of (map row (x ∷ xs)) ≡ line_text (row x) ++ text_of (map row xs)
each_row row x xs = sym (append_assoc (row x) (10 ∷ []) (text_of (map row xs)))

pub each_numbered : {X : Type 0} (row : ℕ → X → List ℕ) (n : ℕ) (x : X) (xs : List X)
    → text_of (numbered row n (x ∷ xs)) ≡ line_text (row n x) ++ text_of (numbered row (next_number n) xs)
each_numbered row n x xs = sym (append_assoc (row n x) (10 ∷ []) (text_of (numbered row (next_number n) xs)))

pub each_queue : (n : ℕ) (d : Node) (ds : List Node) → text_of (queued_rows n (d ∷ ds))
    ≡ text_of (numbered (queued_row d.addr) n d.queue) ++ text_of (queued_rows (number_behind n d.queue) ds)
each_queue n d ds = text_of-append (numbered (queued_row d.addr) n d.queue) (queued_rows (number_behind n d.queue) ds)

pub each_book : (n : ℕ) (m : Mast) (ms : List Mast) → text_of (sent_rows n (m ∷ ms))
    ≡ text_of (numbered (sent_row m.id) n m.book.list) ++ text_of (sent_rows (number_behind n m.book.list) ms)
each_book n m ms = text_of-append (numbered (sent_row m.id) n m.book.list) (sent_rows (number_behind n m.book.list) ms)

-- the member at a place is the next of those from there on
pub next_at : {X : Type 0} (xs : List X) (i : ℕ) (x : X) → i < length xs → x ≡ get_or xs i x → drop i xs ≡ x ∷ drop (i + 1) xs
next_at xs i x within at = rw add-one (drop-cons xs i x within ∙ ap (λ y. y ∷ drop (suc i) xs) (sym at))

module _ {X : Type 0} (whole_of : ℕ → List X → List ℕ) (part : ℕ → X → List ℕ) (next : ℕ → X → ℕ)
    (cons : (n : ℕ) (x : X) (xs : List X) → whole_of n (x ∷ xs) ≡ part n x ++ whole_of (next n x) xs) where
  next_part : (pending : List ℕ) (n : ℕ) (x : X) (rest ahead : List X) → ahead ≡ x ∷ rest
      → pending ++ whole_of n ahead ≡ (pending ++ part n x) ++ whole_of (next n x) rest
  next_part pending n x rest ahead same =
      ap (λ l. pending ++ whole_of n l) same ∙ ap (λ l. pending ++ l) (cons n x rest)
      ∙ sym (append_assoc pending (part n x) (whole_of (next n x) rest))

  -- one part more was put
  pub part_put : (a b c : Option (List ℕ)) (whole pending after : List ℕ) (n : ℕ) (x : X) (rest ahead : List X)
      → ahead ≡ x ∷ rest → WritesAllBut a b whole (pending ++ whole_of n ahead)
      → WritesAllBut b c (pending ++ part n x) after → WritesAllBut a c whole (after ++ whole_of (next n x) rest)
  part_put a b c whole pending after n x rest ahead same so_far put =
      let P : List ℕ → Type 0 = λ l. WritesAllBut a b whole l in
      WritesAllBut-trans a b c whole ((pending ++ part n x) ++ whole_of (next n x) rest) (after ++ whole_of (next n x) rest)
      (subst P (next_part pending n x rest ahead same) so_far)
      (WritesAllBut-more b c (pending ++ part n x) after (whole_of (next n x) rest) put)

  -- of it a front was written
  pub part_front : (a b c : Option (List ℕ)) (whole pending : List ℕ) (n : ℕ) (x : X) (rest ahead : List X)
      → ahead ≡ x ∷ rest → WritesAllBut a b whole (pending ++ whole_of n ahead) → WritesFront b c (pending ++ part n x)
      → WritesFront a c whole
  part_front a b c whole pending n x rest ahead same so_far front =
      let P : List ℕ → Type 0 = λ l. WritesAllBut a b whole l in
      WritesFront-after a b c whole ((pending ++ part n x) ++ whole_of (next n x) rest)
      (subst P (next_part pending n x rest ahead same) so_far)
      (WritesFront-more b c (pending ++ part n x) (whole_of (next n x) rest) front)

-- the parts are the whole
pub parts_whole : (gateways : List Mast) (devices : List Node)
    → parts_behind [] gateways devices ≡ sql_of (record { gateways = gateways; devices = devices })
parts_whole gs ds =
    let a = map gateway_row gs in
    let b = map device_row ds in
    let d = queued_rows 1 ds in
    let e = sent_rows 1 gs in
    let all = rows (record { gateways = gs; devices = ds }) in
    let z = end_line ∷ [] in
    let apart : text_of all ≡ text_of a ++ (text_of b ++ (text_of d ++ text_of e)) =
    text_of-append a _ ∙ ap (λ l. text_of a ++ l)
    (text_of-append b _ ∙ ap (λ l. text_of b ++ l) (text_of-append d e)) in
    regrouped (text_of table_lines) (text_of a) (text_of b) (text_of d) (text_of e) (text_of z)
    ∙ ap (λ l. text_of table_lines ++ (l ++ text_of z)) (sym apart)
    ∙ ap (λ l. text_of table_lines ++ l) (sym (text_of-append all z)) ∙ sym (text_of-append table_lines (all ++ z))
  where
    regrouped : (h a b d e z : List ℕ) → [] ++ h ++ a ++ b ++ d ++ e ++ z ≡ h ++ ((a ++ (b ++ (d ++ e))) ++ z)
    regrouped h a b d e z = simp append_assoc

pub state_whole : (old : List ℕ) (gateways : List Mast) (devices : List Node) (j : Journal) → old ≡ [] → gateways ≡ j.gateways
    → devices ≡ j.devices → parts_behind old gateways devices ≡ sql_of j
state_whole old gateways devices j none same too =
    ap (λ l. parts_behind l gateways devices) none ∙ ap (λ l. parts_behind [] l devices) same
    ∙ ap (λ l. parts_behind [] j.gateways l) too ∙ parts_whole j.gateways j.devices
