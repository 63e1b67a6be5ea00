use Rattle.std.proofs.Common.{◌≡◌, ◌≢◌, ℕ, ◌+◌, ◌<◌, ◌≤◌, false, leb, ltb, ◌&&◌, List, [], ◌∷◌, ◌++◌, length, take}
use Rattle.std.proofs.Common.{Option, None, Some, refl, suc}
use Rattle.std.proofs.Common.{sym, ap, ◌∙◌, arith, append-nil, subst, eqb}
use Rattle.std.proofs.lemmas.Bool.{ne_eqb, lt-leb, and_right}
use Rattle.std.proofs.lemmas.List.{take_all, length_push, length-append}
use Rattle.std.proofs.lemmas.List.Elements.{All-push}
use Rattle.std.proofs.lemmas.List.Splits.{slice_split-cons_no, slice_split_none, length-slice_split}
use Rattle.std.proofs.KnownBytes.{Consumes-trans, Consumes-nil}
use Rattle.std.specs.Io.KnownBytes.{Consumes, IsAtEnd}
use Rattle.std.specs.List.{onto_first}
use Rattle.text_lines.specs.Line.{HasNoLineFeed}
use Rattle.gateway_book.specs.Loading.{lines_between}
use Rattle.gateway_book.specs.SavedLines.{TakesLine, IsNoLine, HasNoLine}

-- Bytes of a saved text up to a line feed.

-- bytes were taken off the front, none of them a line feed
pub record TakesOn (before after : Option (List ℕ)) (held : List ℕ) : Type 0 where
  pub consumed : Consumes before after held
  pub unbroken : HasNoLineFeed held
  pub short : length held ≤ 81

-- one byte more
pub TakesOn-push : (a b c : Option (List ℕ)) (held : List ℕ) (byte : ℕ) (more : List ℕ) → TakesOn a b held → length held ≤ 80
    → Consumes b c (byte ∷ []) → byte ≢ 10 → more ≡ take 1026 (held ++ byte ∷ []) → TakesOn a c more
TakesOn-push a b c held byte more before short taken other pushed =
    let longer : length (held ++ byte ∷ []) ≡ length held + 1 = length_push held byte in
    let same : more ≡ held ++ byte ∷ [] = pushed ∙ take_all 1026 (held ++ byte ∷ []) (omega arith) in
    subst (TakesOn a c) (sym same) (record {
      consumed = Consumes-trans a b c held (byte ∷ []) before.consumed taken;
      unbroken = All-push (λ b. b ≢ 10) held byte before.unbroken other;
      short = omega arith;
    })

-- a line feed ends the line
pub TakesOn-feed : (a b c : Option (List ℕ)) (held : List ℕ) → TakesOn a b held → length held ≤ 80 → Consumes b c (10 ∷ [])
    → TakesLine a c held
TakesOn-feed a b c held before short taken = record {
  consumed = Consumes-trans a b c held (10 ∷ []) before.consumed taken;
  unbroken = before.unbroken;
  short = short;
}

no_part_behind : (n : ℕ) → (leb n 80 && false) ≡ false
no_part_behind n = and_right (leb n 80) false refl

whole_part : (bytes : List ℕ) → HasNoLineFeed bytes → lines_between bytes ≡ bytes ∷ []
whole_part bytes unbroken = slice_split_none (λ byte. eqb byte 10) bytes (λ k d h. ne_eqb _ _ (unbroken k d h))

-- the end of the input ends no line
pub TakesOn-end : (a b c : Option (List ℕ)) (held : List ℕ) → TakesOn a b held → Consumes b c [] → IsAtEnd c → HasNoLine a
TakesOn-end None b c held before taken end = tt
TakesOn-end (Some x) None c held before taken end = absurd before.consumed
TakesOn-end (Some x) (Some y) None held before taken end = absurd taken
TakesOn-end (Some x) (Some y) (Some z) held before taken end =
    let whole : x ≡ held = before.consumed ∙ ap (λ l. held ++ l) (taken ∙ end) ∙ append-nil held in
    subst IsNoLine (sym (ap lines_between whole ∙ whole_part held before.unbroken)) (no_part_behind (length held))

some_part : (bytes : List ℕ) (parts : List (List ℕ)) → lines_between bytes ≡ parts
    → (part : List ℕ) × (more : List (List ℕ)) × (lines_between bytes ≡ part ∷ more)
some_part bytes [] e = absurd (omega (arith, ap length e, length-slice_split (λ byte. eqb byte 10) bytes))
some_part bytes (part ∷ more) e = (part, more, e)

-- bytes without a line feed stand at the front of the first part
first_part : (held rest : List ℕ) → HasNoLineFeed held
    → (part : List ℕ) × (more : List (List ℕ)) × (lines_between (held ++ rest) ≡ (held ++ part) ∷ more)
first_part [] rest unbroken = some_part rest (lines_between rest) refl
first_part (byte ∷ held) rest unbroken =
    let inner = first_part held rest (λ k d h. unbroken (suc k) d (omega arith)) in
    let other : eqb byte 10 ≡ false = ne_eqb _ _ (unbroken 0 0 (omega arith)) in (
      inner.0,
      inner.1,
      slice_split-cons_no (λ b. eqb b 10) byte (held ++ rest) other ∙ ap (onto_first byte) inner.2,
    )

-- nor do 81 bytes without a line feed
pub TakesOn-long : (a b : Option (List ℕ)) (held : List ℕ) → TakesOn a b held → 80 < length held → HasNoLine a
TakesOn-long None b held before long = tt
TakesOn-long (Some x) None held before long = absurd before.consumed
TakesOn-long (Some x) (Some y) held before long =
    let first = first_part held y before.unbroken in
    let more : length (held ++ first.0) ≡ length held + length first.0 = length-append held first.0 in
    let over : leb (length (held ++ first.0)) 80 ≡ false = lt-leb (length (held ++ first.0)) 80 (omega arith) in
    subst IsNoLine (sym (ap lines_between before.consumed ∙ first.2)) (ap (λ t. t && ltb 0 (length first.1)) over)

-- nothing was taken yet
pub TakesOn-nothing : (a : Option (List ℕ)) (held : List ℕ) → held ≡ [] → TakesOn a a held
TakesOn-nothing a held none =
    subst (TakesOn a a) (sym none)
    (record { consumed = Consumes-nil a; unbroken = λ k d h. absurd (omega arith); short = omega arith })

pub pushed_length : (held : List ℕ) (byte : ℕ) (more : List ℕ) → length held ≤ 80 → more ≡ take 1026 (held ++ byte ∷ [])
    → length more ≡ length held + 1
pushed_length held byte more short pushed =
    let longer : length (held ++ byte ∷ []) ≡ length held + 1 = length_push held byte in
    ap length (pushed ∙ take_all 1026 (held ++ byte ∷ []) (omega arith)) ∙ longer
