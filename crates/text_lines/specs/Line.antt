-- Lines of bytes. `lines` of the standard library gives the lines of a text: each ends by a line feed, and one
-- carriage return before that is dropped; what follows the last line feed is a line too, unless it is empty, and
-- keeps every byte.
use Rattle.std.specs.Prelude.{◌≡◌, ◌≢◌, ℕ, ◌+◌, ◌<◌, Bool, List, [], ◌∷◌, ◌++◌, length, take, nat_lt, refl}
use Rattle.std.specs.List.{All, slice_split}
use Rattle.std.specs.Str.Lines.{lines, lines_of_parts, strip_carriage_return}
use Rattle.std.proofs.Common.{sym, ap, ◌∙◌, append_assoc, arith, eqb, cond}
use Rattle.std.proofs.Math.Dec.{eqb-suc-zero}
use Rattle.std.proofs.lemmas.Bool.{ne_eqb}
use Rattle.std.proofs.lemmas.List.Splits.{slice_split_at, slice_split_none, length-slice_split}
use Rattle.text_lines.specs.declared.held_line.TheConstants.{LINE_LIMIT}

-- none of the bytes is a line feed
abbrev pub HasNoLineFeed : List ℕ → Type 0
HasNoLineFeed bytes = All (λ byte. byte ≢ 10) bytes

-- a line of more than 1,024 bytes, its end not counted
abbrev pub is_too_long : List ℕ → Bool
is_too_long line = nat_lt LINE_LIMIT (length line)

-- what is kept of a line: all of it, unless it is too long; then enough to tell that
abbrev pub kept : List ℕ → List ℕ
kept line = take (LINE_LIMIT + 1) line

-- the text of some lines, each ended by a line feed
abbrev pub text_of : List (List ℕ) → List ℕ
text_of [] = []
text_of (line ∷ more) = line ++ (10 ∷ text_of more)

-- the text of some lines and then of others
pub text_of-append : (front rest : List (List ℕ)) → text_of (front ++ rest) ≡ text_of front ++ text_of rest
text_of-append [] rest = refl
text_of-append (line ∷ more) rest = ap (λ l. line ++ (10 ∷ l)) (text_of-append more rest)
    ∙ sym (append_assoc line (10 ∷ text_of more) (text_of rest))

parts_cons : (first : List ℕ) (parts : List (List ℕ)) → 0 < length parts
    → lines_of_parts (first ∷ parts) ≡ strip_carriage_return first ∷ lines_of_parts parts
parts_cons first [] some = absurd (omega arith)
parts_cons first (x ∷ more) some = refl

split_some : (bytes : List ℕ) → 0 < length (slice_split (λ byte. eqb byte 10) bytes)
split_some bytes = omega (arith, length-slice_split (λ byte. eqb byte 10) bytes)

-- the bytes before a line feed are the first line, whatever bytes follow
pub lines-first : (raw more : List ℕ) → HasNoLineFeed raw → lines (raw ++ (10 ∷ more)) ≡ strip_carriage_return raw ∷ lines more
lines-first raw more unbroken =
    ap lines_of_parts (slice_split_at (λ byte. eqb byte 10) raw 10 more (λ k d h. ne_eqb _ _ (unbroken k d h)) refl)
    ∙ parts_cons raw (slice_split (λ byte. eqb byte 10) more) (split_some more)

only_part : (bytes : List ℕ) → 0 < length bytes → lines_of_parts (bytes ∷ []) ≡ bytes ∷ []
only_part [] some = absurd (omega arith)
only_part (x ∷ bytes) some = ap (λ b. cond b [] ((x ∷ bytes) ∷ [])) (eqb-suc-zero (length bytes))

-- bytes without a line feed are one line, if there is a byte
pub lines-last : (bytes : List ℕ) → 0 < length bytes → HasNoLineFeed bytes → lines bytes ≡ bytes ∷ []
lines-last bytes some unbroken =
    ap lines_of_parts (slice_split_none (λ byte. eqb byte 10) bytes (λ k d h. ne_eqb _ _ (unbroken k d h))) ∙ only_part bytes some
