use Rattle.std.proofs.Common.{◌≡◌, ℕ, suc, ◌+◌, ◌-◌, ◌<◌, Bool, true, false, ◌||◌, eqb, List, [], ◌∷◌, ◌++◌, length}
use Rattle.std.proofs.Common.{take, drop, get_or, refl, sym, ap, ◌∙◌, arith, append_assoc, append-nil, length-append, eq-eqb, true≢false}
use Rattle.std.specs.Prelude.{⊤}
use Rattle.std.specs.List.{list_any}
use Rattle.std.proofs.lemmas.Bool.{ne_eqb}
use Rattle.std.proofs.Math.Seq.{take-append_seam}
use Rattle.std.proofs.lemmas.List.{take-append-drop, drop_more, length-take-le, get_or_default, get_or-take}
use Rattle.text_lines.specs.Line.{HasNoLineFeed, text_of, text_of-append}
use Rattle.serve_journal.specs.Lines.{ended, lines_of, batches_of, is_end}

-- Lists that elements of a kind part: lines and batches.

neither : (a b : Bool) → (a || b) ≡ false → (a ≡ false) × (b ≡ false)
neither true b h = absurd (cc)
neither false b h = (refl, h)

module _ {X : Type 0} (ends : X → Bool) where
  -- without such an element there is no part
  pub ended-none : (xs : List X) → list_any ends xs ≡ false → ended ends xs ≡ []
  ended-none [] none = refl
  ended-none (x ∷ xs) none =
      let parts = neither (ends x) (list_any ends xs) none in
      rw (parts.0, ended-none xs parts.1) refl

  -- what stands before the first is the first part
  pub ended-first : (xs : List X) (y : X) (ys : List X) → list_any ends xs ≡ false → ends y ≡ true
      → ended ends (xs ++ y ∷ ys) ≡ xs ∷ ended ends ys
  ended-first [] y ys none is = rw is refl
  ended-first (x ∷ xs) y ys none is =
      let parts = neither (ends x) (list_any ends xs) none in
      rw (parts.0, ended-first xs y ys parts.1 is) refl

-- a line has no line feed
pub no_feed : (line : List ℕ) → HasNoLineFeed line → list_any (λ byte. eqb byte 10) line ≡ false
no_feed [] unbroken = refl
no_feed (b ∷ line) unbroken =
    rw (ne_eqb b 10 (unbroken 0 0 (omega arith)), no_feed line (λ k d h. unbroken (suc k) d (omega arith))) refl

pub lines_of-none : (bytes : List ℕ) → HasNoLineFeed bytes → lines_of bytes ≡ []
lines_of-none bytes unbroken = ended-none (λ byte. eqb byte 10) bytes (no_feed bytes unbroken)

pub lines_of-first : (line rest : List ℕ) → HasNoLineFeed line → lines_of (line ++ 10 ∷ rest) ≡ line ∷ lines_of rest
lines_of-first line rest unbroken = ended-first (λ byte. eqb byte 10) line 10 rest (no_feed line unbroken) refl

-- lines, each without a line feed
abbrev pub AreLines : List (List ℕ) → Type 0
AreLines [] = ⊤
AreLines (line ∷ more) = HasNoLineFeed line × AreLines more

pub AreLines-append : (a b : List (List ℕ)) → AreLines a → AreLines b → AreLines (a ++ b)
AreLines-append [] b are too = too
AreLines-append (line ∷ more) b are too = (are.0, AreLines-append more b are.1 too)

pub lines_of-text : (front : List (List ℕ)) (rest : List ℕ) → AreLines front → lines_of (text_of front ++ rest) ≡ front ++ lines_of rest
lines_of-text [] rest are = refl
lines_of-text (line ∷ more) rest are =
    ap lines_of (append_assoc line (10 ∷ text_of more) rest) ∙ lines_of-first line (text_of more ++ rest) are.0
    ∙ ap (λ l. line ∷ l) (lines_of-text more rest are.1)

-- bytes that were looked at up to what is left: lines, none of which ends a batch
pub record IsOpen (bytes rest : List ℕ) : Type 0 where
  pub front : List (List ℕ)
  pub parts : bytes ≡ text_of front ++ rest
  pub unbroken : AreLines front
  pub open_yet : list_any is_end front ≡ false

pub IsOpen-refl : (bytes : List ℕ) → IsOpen bytes bytes
IsOpen-refl bytes = record { front = []; parts = refl; unbroken = tt; open_yet = refl }

any-append : (a : List (List ℕ)) (line : List ℕ) → list_any is_end a ≡ false → is_end line ≡ false
    → list_any is_end (a ++ line ∷ []) ≡ false
any-append [] line none last = rw last refl
any-append (x ∷ a) line none last =
    let parts = neither (is_end x) (list_any is_end a) none in
    rw (parts.0, any-append a line parts.1 last) refl

-- one line more
pub IsOpen-more : (bytes rest line after : List ℕ) → IsOpen bytes rest → rest ≡ line ++ 10 ∷ after → HasNoLineFeed line
    → is_end line ≡ false → IsOpen bytes after
IsOpen-more bytes rest line after o split unbroken other =
    record {
      front = o.front ++ line ∷ [];
      parts =
          o.parts ∙ ap (λ l. text_of o.front ++ l) split
          ∙ ap (λ l. text_of o.front ++ l) (sym (append_assoc line (10 ∷ []) after))
          ∙ sym (append_assoc (text_of o.front) (line ++ 10 ∷ []) after)
          ∙ ap (λ l. l ++ after) (sym (text_of-append o.front (line ∷ [])));
      unbroken = AreLines-append o.front (line ∷ []) o.unbroken (unbroken, tt);
      open_yet = any-append o.front line o.open_yet other;
    }

-- no line is left, so there is no batch
pub no_batch : (bytes rest : List ℕ) → IsOpen bytes rest → lines_of rest ≡ [] → batches_of (lines_of bytes) ≡ []
no_batch bytes rest o none =
    let lines : lines_of bytes ≡ o.front =
    ap lines_of o.parts ∙ lines_of-text o.front rest o.unbroken ∙ ap (λ l. o.front ++ l) none ∙ append-nil o.front in
    ap batches_of lines ∙ ended-none is_end o.front o.open_yet

-- a line ends the first batch
pub one_batch : (bytes rest line after : List ℕ) → IsOpen bytes rest → rest ≡ line ++ 10 ∷ after → HasNoLineFeed line
    → is_end line ≡ true
    → batches_of (lines_of bytes) ≡ lines_of (take (length bytes - length rest) bytes) ∷ batches_of (lines_of after)
one_batch bytes rest line after o split unbroken last =
    let text : List ℕ = text_of o.front in
    let size : length bytes - length rest ≡ length text = omega (arith, ap length o.parts, length-append text rest) in
    let front : take (length bytes - length rest) bytes ≡ text =
    ap (λ n. take n bytes) size ∙ ap (take (length text)) o.parts ∙ take-append_seam text rest in
    let own : lines_of text ≡ o.front =
    ap lines_of (sym (append-nil text)) ∙ lines_of-text o.front [] o.unbroken ∙ append-nil o.front in
    let lines : lines_of bytes ≡ o.front ++ line ∷ lines_of after =
    ap lines_of o.parts ∙ lines_of-text o.front rest o.unbroken
    ∙ ap (λ l. o.front ++ l) (ap lines_of split ∙ lines_of-first line after unbroken) in
    ap batches_of lines ∙ ended-first is_end o.front line (lines_of after) o.open_yet last
    ∙ ap (λ l. l ∷ batches_of (lines_of after)) (sym (ap lines_of front ∙ own))

-- where the first line feed stands
pub record IsCut (bytes : List ℕ) (place : ℕ) : Type 0 where
  pub parts : bytes ≡ take place bytes ++ 10 ∷ drop (place + 1) bytes
  pub unbroken : HasNoLineFeed (take place bytes)

pub cut_at : (bytes : List ℕ) (place : ℕ) → place < length bytes → ((k : ℕ) → k < place → eqb (get_or bytes k 0) 10 ≡ false)
    → get_or bytes place 0 ≡ 10 → IsCut bytes place
cut_at bytes place inside before at =
    record {
      parts =
          sym (take-append-drop place bytes)
          ∙ ap (λ l. take place bytes ++ l) (drop_more bytes place 0 inside ∙ ap (λ b. b ∷ drop (place + 1) bytes) at);
      unbroken =
          λ k d h e.
          let within : k < place = omega (arith, h, length-take-le place bytes (omega arith)) in
          let same : get_or (take place bytes) k d ≡ get_or bytes k 0 =
          get_or_default (take place bytes) k d 0 h ∙ get_or-take place bytes k 0 within in
          true≢false (sym (eq-eqb (get_or bytes k 0) 10 (sym same ∙ e)) ∙ before k within);
    }

pub uncut : (bytes : List ℕ) → ((k : ℕ) → k < length bytes → eqb (get_or bytes k 0) 10 ≡ false) → HasNoLineFeed bytes
uncut bytes none = λ k d h e.
    true≢false (sym (eq-eqb (get_or bytes k 0) 10 (sym (get_or_default bytes k d 0 h) ∙ e)) ∙ none k h)

pub lines_of-cut : (bytes : List ℕ) (place : ℕ) → IsCut bytes place
    → lines_of bytes ≡ take place bytes ∷ lines_of (drop (place + 1) bytes)
lines_of-cut bytes place cut =
    ap lines_of cut.parts ∙ lines_of-first (take place bytes) (drop (place + 1) bytes) cut.unbroken
