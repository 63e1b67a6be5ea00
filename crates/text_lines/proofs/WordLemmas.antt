-- Lemmas on the words of a line.
use Rattle.std.proofs.Common.{◌≡◌, ℕ, zero, suc, ◌+◌, ◌<◌, ◌≤◌, List, [], ◌∷◌, ◌++◌, length, take, drop, get_or, true, false, map}
use Rattle.std.proofs.Common.{refl, sym, ap, ◌∙◌, ◌⊎◌, ⊎_elim, arith, rules}
use Rattle.std.proofs.lemmas.Bool.{cases_lt}
use Rattle.std.proofs.lemmas.List.{drop_all, take_all, drop_more, take_at, length-take-le, length-map, append-nil, get_or_default}
use Rattle.std.proofs.lemmas.List.Splits.{slice_split-cons_yes, slice_split_none, slice_split_first}
use Rattle.std.proofs.lemmas.List.Sums.{position_or_len_is}
use Rattle.std.specs.List.{filter, slice_split, position_or_len}
use Rattle.text_lines.specs.Words.{is_blank, has_bytes, words_of}

-- a blank before a line changes none of its words
pub words_of-blank : (byte : ℕ) (line : List ℕ) → is_blank byte ≡ true → words_of (byte ∷ line) ≡ words_of line
words_of-blank byte line blank = ap (filter has_bytes) (slice_split-cons_yes is_blank byte line blank)

-- nor do as many as a line begins with
pub words_of-blanks : (line : List ℕ) (start : ℕ) → ((k : ℕ) → k < start → is_blank (get_or line k 0) ≡ true)
    → words_of (drop start line) ≡ words_of line
words_of-blanks line zero blank = refl
words_of-blanks [] (suc start) blank = refl
words_of-blanks (byte ∷ line) (suc start) blank =
    words_of-blanks line start (λ k h. blank (suc k) (omega arith)) ∙ sym (words_of-blank byte line (blank 0 (omega arith)))

filter-part : (part : List ℕ) (parts : List (List ℕ)) → 0 < length part
    → filter has_bytes (part ∷ parts) ≡ part ∷ filter has_bytes parts
filter-part [] parts some = absurd (omega arith)
filter-part (x ∷ part) parts some = grind (arith, rules)

-- bytes up to the first blank, if there is one, are the first word
pub words_of-first : (line : List ℕ) (end : ℕ) → 0 < end → end ≤ length line
    → ((k : ℕ) → k < end → is_blank (get_or line k 0) ≡ false) → (end < length line → is_blank (get_or line end 0) ≡ true)
    → words_of line ≡ take end line ∷ words_of (drop end line)
words_of-first line end some within before at =
    let place : position_or_len is_blank line ≡ end = position_or_len_is is_blank line end 0 within before at in
    let part : 0 < length (take end line) = omega (arith, length-take-le end line within) in
    ⊎_elim
    (λ inside.
    let first : position_or_len is_blank line < length line = omega arith in
    let parts : slice_split is_blank line ≡ take end line ∷ slice_split is_blank (drop (end + 1) line) =
    slice_split_first is_blank line 0 first ∙ ap (λ n. take n line ∷ slice_split is_blank (drop (n + 1) line)) place in
    let rest : words_of (drop end line) ≡ words_of (drop (end + 1) line) =
    ap words_of (drop_more line end 0 inside) ∙ words_of-blank (get_or line end 0) (drop (end + 1) line) (at inside) in
    ap (filter has_bytes) parts ∙ filter-part (take end line) (slice_split is_blank (drop (end + 1) line)) part
    ∙ ap (λ l. take end line ∷ l) (sym rest))
    (λ whole.
    let parts : slice_split is_blank line ≡ line ∷ [] =
    slice_split_none is_blank line (λ k d h. ap is_blank (get_or_default line k d 0 h) ∙ before k (omega arith)) in
    let rest : words_of (drop end line) ≡ [] = ap words_of (drop_all end line whole) in
    ap (filter has_bytes) parts ∙ ap (λ l. filter has_bytes (l ∷ [])) (sym (take_all end line whole))
    ∙ filter-part (take end line) [] part ∙ ap (λ l. take end line ∷ l) (sym rest))
    (cases_lt end (length line))

-- where a line begins with no blank, that is so
pub words_of-word : (line : List ℕ) (end : ℕ) → 0 < length line → is_blank (get_or line 0 0) ≡ false → end ≤ length line
    → ((k : ℕ) → k < end → is_blank (get_or line k 0) ≡ false) → (end < length line → is_blank (get_or line end 0) ≡ true)
    → words_of line ≡ take end line ∷ words_of (drop end line)
words_of-word line zero some first within before at = absurd (cc (first, at some))
words_of-word line (suc end) some first within before at =
    words_of-first line (suc end) (omega arith) within before at

-- as many words as there is room for, or all of them, are the first words
pub first_words : (found rest all : List (List ℕ)) (room : ℕ) → all ≡ found ++ rest → length found ≤ room
    → (rest ≡ []) ⊎ (length found ≡ room) → found ≡ take room all
first_words found rest all room same within full = ⊎_elim
    (λ none. sym (ap (take room) (same ∙ ap (λ l. found ++ l) none ∙ append-nil found) ∙ take_all room found within))
    (λ many. sym (ap (take room) same ∙ take_at found rest room many))
    full

pub map_take_length : {X : Type 0} (f : X → List ℕ) (words : List X) (count : ℕ) → count ≤ length words
    → length (map f (take count words)) ≡ count
map_take_length f words count within = length-map (take count words) f ∙ length-take-le count words within
