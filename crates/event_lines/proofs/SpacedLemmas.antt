-- Words with a space between two are parted again.
use Rattle.std.proofs.Common.{◌≡◌, ℕ, ◌<◌, List, [], ◌∷◌, ◌++◌, length, false, All, refl, ap, ◌∙◌, arith, rules}
use Rattle.std.proofs.lemmas.List.Splits.{slice_split_at, slice_split_none}
use Rattle.std.specs.Prelude.{⊤}
use Rattle.std.specs.List.{filter, slice_split}
use Rattle.text_lines.specs.Words.{is_blank, has_bytes, words_of, spaced}

-- a word: some bytes, none of them a blank
abbrev pub IsWord : List ℕ → Type 0
IsWord word = (0 < length word) × All (λ byte. is_blank byte ≡ false) word

abbrev pub AreWords : List (List ℕ) → Type 0
AreWords [] = ⊤
AreWords (word ∷ words) = IsWord word × AreWords words

filter-part : (part : List ℕ) (parts : List (List ℕ)) → 0 < length part
    → filter has_bytes (part ∷ parts) ≡ part ∷ filter has_bytes parts
filter-part [] parts some = absurd (omega arith)
filter-part (x ∷ part) parts some = grind (arith, rules)

-- one word alone
word_alone : (word : List ℕ) → IsWord word → words_of word ≡ word ∷ []
word_alone word is = ap (filter has_bytes) (slice_split_none is_blank word is.1) ∙ filter-part word [] is.0

-- one before a space
word_before : (word rest : List ℕ) → IsWord word → words_of (word ++ 32 ∷ rest) ≡ word ∷ words_of rest
word_before word rest is =
    ap (filter has_bytes) (slice_split_at is_blank word 32 rest is.1 refl) ∙ filter-part word (slice_split is_blank rest) is.0

-- all of them
pub parted : (words : List (List ℕ)) → AreWords words → words_of (spaced words) ≡ words
parted [] are = refl
parted (word ∷ []) are = word_alone word are.0
parted (word ∷ next ∷ words) are =
    word_before word (spaced (next ∷ words)) are.0 ∙ ap (λ more. word ∷ more) (parted (next ∷ words) are.1)
