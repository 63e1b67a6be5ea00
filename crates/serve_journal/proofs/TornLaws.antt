use Rattle.std.specs.Prelude.{ℕ, ◌≡◌, ◌⊎◌, ◌<◌, ◌==◌, nat_lt, Bool, true, false, ◌&&◌, ⊤, List, [], ◌∷◌, ◌++◌, length, map}
use Rattle.std.specs.Prelude.{Some, None, Option, is_some}
use Rattle.std.specs.List.{list_all, All}
use Rattle.std.specs.Cmp.Lexicographic.{bytes_decides}
use Rattle.std.proofs.Common.{refl, sym, ap, subst, ◌∙◌, arith, append_assoc, inl, inr, suc}
use Rattle.std.proofs.lemmas.Bool.{and_parts, ltb-true, ne_eqb}
use Rattle.std.proofs.lemmas.List.Elements.{All-head, All-tail}
use Rattle.text_lines.specs.Line.{text_of}
use Rattle.text_lines.specs.Words.{spaced}
use Rattle.gateway_book.proofs.SavedNumbers.{is_ink}
use Rattle.serve_journal.specs.declared.entry.Entry.{Entry}
use Rattle.serve_journal.specs.declared.entry.Entry.TheVariants.{Gateway, Device, Queue, Taken, Clock, Sent}
use Rattle.serve_journal.specs.EntryText.{entry_text, entry_words}
use Rattle.serve_journal.specs.EntryWords.{entry_of}
use Rattle.serve_journal.specs.LineLaws.{IsEntry}
use Rattle.serve_journal.specs.Lines.{behind, lines_of, end_line, is_end, batches_of}
use Rattle.serve_journal.specs.Reading.{is_entry}
use Rattle.serve_journal.specs.Torn.{batch_lines, IsTornOf}
use Rattle.serve_journal.proofs.ReadBack.{ink_entry}
use Rattle.serve_journal.proofs.Spelling.{one_spelling}

-- What the lines of a torn batch are.

-- no byte ends a line
abbrev pub NoFeed : List ℕ → Type 0
NoFeed [] = ⊤
NoFeed (b ∷ bs) = ((b == 10) ≡ false) × NoFeed bs

-- a byte is 0
abbrev pub HasZero : List ℕ → Type 0
HasZero [] = ⊥
HasZero (b ∷ bs) = (b ≡ 0) ⊎ HasZero bs

-- all bytes can be seen, but for spaces
abbrev pub IsSolid : List ℕ → Type 0
IsSolid [] = ⊤
IsSolid (b ∷ bs) = (31 < b) × IsSolid bs

-- it begins as no line that ends a batch
abbrev pub Begins : List ℕ → Type 0
Begins [] = ⊥
Begins (b ∷ bs) = 46 < b

no_feed_append : (xs ys : List ℕ) → NoFeed xs → NoFeed ys → NoFeed (xs ++ ys)
no_feed_append [] ys n m = m
no_feed_append (x ∷ xs) ys n m = (n.0, no_feed_append xs ys n.1 m)

zero_before : (xs ys : List ℕ) → HasZero xs → HasZero (xs ++ ys)
zero_before [] ys z = absurd z
zero_before (x ∷ xs) ys (inl e) = inl e
zero_before (x ∷ xs) ys (inr z) = inr (zero_before xs ys z)

zero_behind : (xs ys : List ℕ) → HasZero ys → HasZero (xs ++ ys)
zero_behind [] ys z = z
zero_behind (x ∷ xs) ys z = inr (zero_behind xs ys z)

solid_no_zero : (xs : List ℕ) → IsSolid xs → HasZero xs → ⊥
solid_no_zero [] s z = z
solid_no_zero (x ∷ xs) s (inl e) = omega (arith, e, s.0)
solid_no_zero (x ∷ xs) s (inr z) = solid_no_zero xs s.1 z

solid_append : (xs ys : List ℕ) → IsSolid xs → IsSolid ys → IsSolid (xs ++ ys)
solid_append [] ys s t = t
solid_append (x ∷ xs) ys s t = (s.0, solid_append xs ys s.1 t)

-- The lines of entries.

solid_word : (word : List ℕ) → is_ink word ≡ true → IsSolid word
solid_word [] e = tt
solid_word (b ∷ word) e =
    let parts = and_parts (nat_lt 32 b) (is_ink word) e in
    let big = ltb-true 32 b parts.0 in
    (omega (arith, big), solid_word word parts.1)

solid_words : (words : List (List ℕ)) → list_all is_ink words ≡ true → IsSolid (spaced words)
solid_words [] e = tt
solid_words (word ∷ []) e = solid_word word (and_parts (is_ink word) true e).0
solid_words (word ∷ next ∷ more) e =
    let parts = and_parts (is_ink word) (list_all is_ink (next ∷ more)) e in
    solid_append word (32 ∷ spaced (next ∷ more)) (solid_word word parts.0) (omega arith, solid_words (next ∷ more) parts.1)

solid_entry : (e : Entry) → IsEntry e → IsSolid (entry_text e)
solid_entry e is = solid_words (entry_words e) (ink_entry e is)

pub begins_entry : (e : Entry) → Begins (entry_text e)
begins_entry (Gateway id eui cap gap) = omega arith
begins_entry (Device addr session up down) = omega arith
begins_entry (Queue addr payload) = omega arith
begins_entry (Taken addr) = omega arith
begins_entry (Clock id high floor) = omega arith
begins_entry (Sent id start freq_hz rate len) = omega arith

-- a line with a byte 0 is no entry, and ends no batch
no_entry_by : (line : List ℕ) (o : Option Entry) → HasZero line → entry_of line ≡ o → is_some o ≡ false
no_entry_by line None z e = refl
no_entry_by line (Some entry) z e =
    let spelled = one_spelling line entry e in
    absurd (solid_no_zero (entry_text entry) (solid_entry entry spelled.0) (subst HasZero spelled.1 z))

no_entry : (line : List ℕ) → HasZero line → is_entry line ≡ false
no_entry line z = no_entry_by line (entry_of line) z refl

no_end_by : (line : List ℕ) (t : Bool) → HasZero line → is_end line ≡ t → t ≡ false
no_end_by line true z e =
    let same : line ≡ end_line = (bytes_decides line end_line).0 e in
    absurd (solid_no_zero end_line (omega arith, tt) (subst HasZero same z))
no_end_by line false z e = refl

no_end : (line : List ℕ) → HasZero line → is_end line ≡ false
no_end line z = no_end_by line (is_end line) z refl

no_end_begun_by : (line : List ℕ) (t : Bool) → Begins line → is_end line ≡ t → t ≡ false
no_end_begun_by line true b e =
    let same : line ≡ end_line = (bytes_decides line end_line).0 e in
    absurd (omega (arith, subst Begins same b))
no_end_begun_by line false b e = refl

pub no_end_begun : (line : List ℕ) → Begins line → is_end line ≡ false
no_end_begun line b = no_end_begun_by line (is_end line) b refl

-- The lines of bytes.

-- without a line feed there is no line
no_lines : (xs : List ℕ) → NoFeed xs → lines_of xs ≡ []
no_lines [] n = refl
no_lines (x ∷ xs) n = rw (n.0, no_lines xs n.1) refl

-- what stands before the first line feed is the first line
pub first_line : (line rest : List ℕ) → NoFeed line → lines_of (line ++ 10 ∷ rest) ≡ line ∷ lines_of rest
first_line [] rest n = refl
first_line (x ∷ line) rest n = rw (n.0, first_line line rest n.1) refl

solid_no_feed : (xs : List ℕ) → IsSolid xs → NoFeed xs
solid_no_feed [] s = tt
solid_no_feed (x ∷ xs) s = (ne_eqb x 10 (λ e. omega (arith, e, s.0)), solid_no_feed xs s.1)

pub line_of_entry : (e : Entry) → IsEntry e → NoFeed (entry_text e)
line_of_entry e is = solid_no_feed (entry_text e) (solid_entry e is)

-- Torn bytes.

torn_no_feed : (xs front : List ℕ) → IsSolid xs → IsTornOf xs front → NoFeed front
torn_no_feed xs [] s t = tt
torn_no_feed [] (b ∷ front) s t = absurd t
torn_no_feed (x ∷ xs) (b ∷ front) s (inl e, t) = (ne_eqb b 10 (λ f. omega (arith, e, f)), torn_no_feed xs front s.1 t)
torn_no_feed (x ∷ xs) (b ∷ front) s (inr e, t) = (ne_eqb b 10 (λ f. omega (arith, e, f, s.0)), torn_no_feed xs front s.1 t)

-- a front that is as long is the whole, or has a byte 0
same_or_zero : (xs front : List ℕ) → IsTornOf xs front → length front ≡ length xs → (front ≡ xs) ⊎ HasZero front
same_or_zero [] [] t n = inl refl
same_or_zero (x ∷ xs) [] t n = absurd (omega (arith, n))
same_or_zero [] (b ∷ front) t n = absurd t
same_or_zero (x ∷ xs) (b ∷ front) (inl e, t) n = inr (inl e)
same_or_zero (x ∷ xs) (b ∷ front) (inr e, t) n = by (same_or_zero xs front t (omega (arith, n)))
  where
    by : (front ≡ xs) ⊎ HasZero front → (b ∷ front ≡ x ∷ xs) ⊎ HasZero (b ∷ front)
    by (inl same) = inl (rw (e, same) refl)
    by (inr z) = inr (inr z)

-- a front that reaches beyond a part: what is left of that, of the byte behind it, and of the rest
record Passes (part : List ℕ) (next : ℕ) (rest front : List ℕ) : Type 0 where
  pub own : List ℕ
  pub torn : IsTornOf part own
  pub sized : length own ≡ length part
  pub byte : ℕ
  pub is_byte : (byte ≡ 0) ⊎ (byte ≡ next)
  pub more : List ℕ
  pub torn_more : IsTornOf rest more
  pub is : front ≡ own ++ byte ∷ more

passes_one : (x b next : ℕ) (part rest front : List ℕ) → (b ≡ 0) ⊎ (b ≡ x)
    → IsTornOf part front ⊎ Passes part next rest front
    → IsTornOf (x ∷ part) (b ∷ front) ⊎ Passes (x ∷ part) next rest (b ∷ front)
passes_one x b next part rest front h (inl t) = inl (h, t)
passes_one x b next part rest front h (inr p) =
    inr (record {
      own = b ∷ p.own;
      torn = (h, p.torn);
      sized = ap suc p.sized;
      byte = p.byte;
      is_byte = p.is_byte;
      more = p.more;
      torn_more = p.torn_more;
      is = ap (λ (l : List ℕ). b ∷ l) p.is;
    })

within_or_beyond : (part : List ℕ) (next : ℕ) (rest front : List ℕ) → IsTornOf (part ++ next ∷ rest) front
    → IsTornOf part front ⊎ Passes part next rest front
within_or_beyond part next rest [] t = inl tt
within_or_beyond [] next rest (b ∷ front) t =
    inr (record {
      own = [];
      torn = tt;
      sized = refl;
      byte = b;
      is_byte = t.0;
      more = front;
      torn_more = t.1;
      is = refl;
    })
within_or_beyond (x ∷ part) next rest (b ∷ front) t =
    passes_one x b next part rest front t.0 (within_or_beyond part next rest front t.1)

-- What becomes of a torn batch, behind the front of a line that has a byte 0, or behind nothing.

-- the front of a line: none, or one with a byte 0
abbrev IsFront : List ℕ → Type 0
IsFront p = (p ≡ []) ⊎ (HasZero p × NoFeed p)

-- no batch ends; one ends that has a line which is no entry; or all is there
pub data Fate (lines : List (List ℕ)) (p front : List ℕ) : Type 0 where
  Open : batches_of (lines_of (p ++ front)) ≡ [] → Fate lines p front
  Spoilt : (b : List (List ℕ)) → batches_of (lines_of (p ++ front)) ≡ b ∷ [] → list_all is_entry b ≡ false → Fate lines p front
  Whole : p ≡ [] → front ≡ text_of (lines ++ end_line ∷ []) → batches_of (lines_of front) ≡ lines ∷ [] → Fate lines p front

front_no_feed : (p : List ℕ) → IsFront p → NoFeed p
front_no_feed p (inl e) = subst NoFeed (sym e) tt
front_no_feed p (inr z) = z.1

open_at : (lines : List (List ℕ)) (p front : List ℕ) → NoFeed p → NoFeed front → Fate lines p front
open_at lines p front n m = Open (ap batches_of (no_lines (p ++ front) (no_feed_append p front n m)))

torn_nothing : (front : List ℕ) → IsTornOf [] front → front ≡ []
torn_nothing [] t = refl
torn_nothing (b ∷ front) t = absurd t

no_feed_zero : (xs : List ℕ) → NoFeed xs → NoFeed (xs ++ 0 ∷ [])
no_feed_zero xs n = no_feed_append xs (0 ∷ []) n (refl, tt)

has_zero : (xs : List ℕ) → HasZero (xs ++ 0 ∷ [])
has_zero xs = zero_behind xs (0 ∷ []) (inl refl)

-- a line that was torn behind a front: it is the line, behind nothing, or has a byte 0
line_by : (p own line : List ℕ) → (own ≡ line) ⊎ HasZero own → IsFront p → ((p ≡ []) × (own ≡ line)) ⊎ HasZero (p ++ own)
line_by p own line (inr z) i = inr (zero_behind p own z)
line_by p own line (inl e) (inr z) = inr (zero_before p own z.0)
line_by p own line (inl e) (inl none) = inl (none, e)

-- the last line of the batch
last_by : (p own : List ℕ) → NoFeed (p ++ own) → ((p ≡ []) × (own ≡ end_line)) ⊎ HasZero (p ++ own)
    → Fate [] p (own ++ 10 ∷ [])
last_by p own n (inr z) =
    Open (ap (λ (l : List ℕ). batches_of (lines_of l)) (sym (append_assoc p own (10 ∷ [])))
    ∙ ap batches_of (first_line (p ++ own) [] n) ∙ rw (no_end (p ++ own) z) refl)
last_by p own n (inl e) =
    Whole e.0 (ap (λ (l : List ℕ). l ++ 10 ∷ []) e.1)
    (ap (λ (l : List ℕ). batches_of (lines_of (l ++ 10 ∷ []))) e.1 ∙ refl)

last_fate : (p front : List ℕ) → IsFront p → IsTornOf end_line front ⊎ Passes end_line 10 [] front → Fate [] p front
last_fate p front i (inl t) =
    open_at [] p front (front_no_feed p i) (torn_no_feed end_line front (omega arith, tt) t)
last_fate p front i (inr g) = by g.is_byte
  where
    solid : IsSolid end_line
    solid = (omega arith, tt)

    own_no_feed : NoFeed g.own
    own_no_feed = torn_no_feed end_line g.own solid g.torn

    whole : (byte : ℕ) → g.byte ≡ byte → front ≡ g.own ++ byte ∷ []
    whole byte e = g.is ∙ (rw (e, torn_nothing g.more g.torn_more) refl)

    by : (g.byte ≡ 0) ⊎ (g.byte ≡ 10) → Fate [] p front
    by (inl e) =
        open_at [] p front (front_no_feed p i) (subst NoFeed (sym (whole 0 e)) (no_feed_zero g.own own_no_feed))
    by (inr e) =
        subst (Fate [] p) (sym (whole 10 e))
        (last_by p g.own (no_feed_append p g.own (front_no_feed p i) own_no_feed)
        (line_by p g.own end_line (same_or_zero end_line g.own g.torn g.sized) i))

-- the line goes on behind a byte 0 in place of its line feed
longer : (line : List ℕ) (lines : List (List ℕ)) (p q front more : List ℕ) → HasZero q → q ++ more ≡ p ++ front
    → Fate lines q more → Fate (line ∷ lines) p front
longer line lines p q front more z e (Open b) = Open (ap (λ (l : List ℕ). batches_of (lines_of l)) (sym e) ∙ b)
longer line lines p q front more z e (Spoilt b is k) =
    Spoilt b (ap (λ (l : List ℕ). batches_of (lines_of l)) (sym e) ∙ is) k
longer line lines p q front more z e (Whole none same is) = absurd (subst HasZero none z)

false_right : (s t : Bool) → t ≡ false → (s && t) ≡ false
false_right true t e = e
false_right false t e = refl

false_left : (s t : Bool) → s ≡ false → (s && t) ≡ false
false_left true t e = absurd (cc)
false_left false t e = refl

-- a line ends, and others follow
module _ (line : List ℕ) (lines : List (List ℕ)) (p own front more : List ℕ) (n : NoFeed (p ++ own)) (begins : Begins line)
    (x : ((p ≡ []) × (own ≡ line)) ⊎ HasZero (p ++ own)) (e : front ≡ own ++ 10 ∷ more) where
  no_end_here : ((p ≡ []) × (own ≡ line)) ⊎ HasZero (p ++ own) → is_end (p ++ own) ≡ false
  no_end_here (inr z) = no_end (p ++ own) z
  no_end_here (inl f) =
      let same : p ++ own ≡ line = ap (λ (l : List ℕ). l ++ own) f.0 ∙ f.1 in
      no_end_begun (p ++ own) (subst Begins (sym same) begins)

  batches_here : batches_of (lines_of (p ++ front)) ≡ behind (p ++ own) (batches_of (lines_of more))
  batches_here =
      ap (λ (l : List ℕ). batches_of (lines_of (p ++ l))) e
      ∙ ap (λ (l : List ℕ). batches_of (lines_of l)) (sym (append_assoc p own (10 ∷ more)))
      ∙ ap batches_of (first_line (p ++ own) more n)
      ∙ rw (no_end_here x) refl

  whole_here : front ≡ own ++ 10 ∷ more → more ≡ text_of (lines ++ end_line ∷ []) → batches_of (lines_of more) ≡ lines ∷ []
      → ((p ≡ []) × (own ≡ line)) ⊎ HasZero (p ++ own) → Fate (line ∷ lines) p front
  whole_here d same is (inr z) =
      Spoilt ((p ++ own) ∷ lines) (batches_here ∙ ap (behind (p ++ own)) is)
      (false_left (is_entry (p ++ own)) (list_all is_entry lines) (no_entry (p ++ own) z))
  whole_here d same is (inl f) =
      let mine : p ++ own ≡ line = ap (λ (l : List ℕ). l ++ own) f.0 ∙ f.1 in
      Whole f.0 (d ∙ (rw (f.1, same) refl))
      (ap (λ (l : List ℕ). batches_of (lines_of (l ++ front))) (sym f.0) ∙ batches_here ∙ ap (behind (p ++ own)) is
      ∙ ap (λ (l : List ℕ). (l ∷ lines) ∷ []) mine)

  follows : Fate lines [] more → Fate (line ∷ lines) p front
  follows (Open b) = Open (batches_here ∙ ap (behind (p ++ own)) b)
  follows (Spoilt b is k) =
      Spoilt ((p ++ own) ∷ b) (batches_here ∙ ap (behind (p ++ own)) is)
      (false_right (is_entry (p ++ own)) (list_all is_entry b) k)
  follows (Whole none same is) = whole_here e same is x

-- one line of it, behind which the rest has its fate, whatever the front of a line is that stands before that
module _ (entry : Entry) (own_is : IsEntry entry) (entries : List Entry) (p front : List ℕ) (i : IsFront p)
    (rest : (q more : List ℕ) → IsFront q → IsTornOf (text_of (batch_lines entries)) more → Fate (map entry_text entries) q more) where
  solid : IsSolid (entry_text entry)
  solid = solid_entry entry own_is

  ends : (g : Passes (entry_text entry) 10 (text_of (batch_lines entries)) front) → (g.byte ≡ 0) ⊎ (g.byte ≡ 10)
      → Fate (map entry_text (entry ∷ entries)) p front
  ends g (inl e) =
      let n : NoFeed (p ++ g.own) = no_feed_append p g.own (front_no_feed p i) (torn_no_feed (entry_text entry) g.own solid g.torn) in
      let z : HasZero ((p ++ g.own) ++ 0 ∷ []) = has_zero (p ++ g.own) in
      let m : NoFeed ((p ++ g.own) ++ 0 ∷ []) = no_feed_zero (p ++ g.own) n in
      let same : front ≡ g.own ++ 0 ∷ g.more = g.is ∙ ap (λ (b : ℕ). g.own ++ b ∷ g.more) e in
      longer (entry_text entry) (map entry_text entries) p ((p ++ g.own) ++ 0 ∷ []) front g.more z
      (append_assoc (p ++ g.own) (0 ∷ []) g.more ∙ append_assoc p g.own (0 ∷ g.more) ∙ ap (λ (l : List ℕ). p ++ l) (sym same))
      (rest ((p ++ g.own) ++ 0 ∷ []) g.more (inr (z, m)) g.torn_more)
  ends g (inr e) =
      let n : NoFeed (p ++ g.own) = no_feed_append p g.own (front_no_feed p i) (torn_no_feed (entry_text entry) g.own solid g.torn) in
      let same : front ≡ g.own ++ 10 ∷ g.more = g.is ∙ ap (λ (b : ℕ). g.own ++ b ∷ g.more) e in
      follows (entry_text entry) (map entry_text entries) p g.own front g.more n (begins_entry entry)
      (line_by p g.own (entry_text entry) (same_or_zero (entry_text entry) g.own g.torn g.sized) i) same
      (rest [] g.more (inl refl) g.torn_more)

  first_fate : IsTornOf (entry_text entry) front ⊎ Passes (entry_text entry) 10 (text_of (batch_lines entries)) front
      → Fate (map entry_text (entry ∷ entries)) p front
  first_fate (inl u) =
      open_at (map entry_text (entry ∷ entries)) p front (front_no_feed p i) (torn_no_feed (entry_text entry) front solid u)
  first_fate (inr g) = ends g g.is_byte

-- the fate of a torn batch
pub fate : (entries : List Entry) → All IsEntry entries → (p front : List ℕ) → IsFront p
    → IsTornOf (text_of (batch_lines entries)) front → Fate (map entry_text entries) p front
fate [] are p front i t = last_fate p front i (within_or_beyond end_line 10 [] front t)
fate (entry ∷ entries) are p front i t =
    first_fate entry (All-head IsEntry entry entries are) entries p front i
    (λ q more j u. fate entries (All-tail IsEntry entry entries are) q more j u)
    (within_or_beyond (entry_text entry) 10 (text_of (batch_lines entries)) front t)
