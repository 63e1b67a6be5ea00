-- The code's tables are what the standard computes, at each of the 256 bytes.
use Rattle.std.proofs.Common.{◌≡◌, ℕ, zero, suc, ◌+◌, ◌<◌, List, [], ◌∷◌, map, get_or, length, refl, ap, sym, ◌∙◌, arith}
use Rattle.std.proofs.Common.{true, nat_lt}
use Rattle.std.proofs.lemmas.Bool.{ltb-true, and_parts}
use Rattle.std.proofs.lemmas.List.{get_or-map}
use Rattle.std.specs.List.{range_with_len, list_all}
use Rattle.aes_cmac.specs.Field.{times_x, product_of_bits, product, power, inverse, s_box}
use Rattle.aes_cmac.specs.Aes.{round_constant}
use Rattle.aes_cmac.specs.Words.{word_bytes}
use Rattle.aes_cmac.specs.declared.tables.TheConstants.{ROUND_CONSTANTS, S_BOX, FIRST_COLUMN, SECOND_COLUMN, THIRD_COLUMN}
use Rattle.aes_cmac.specs.declared.tables.TheConstants.{FOURTH_COLUMN}

S_BOX-map : S_BOX ≡ map s_box (range_with_len 0 256)
unfolding times_x product_of_bits product power inverse s_box
S_BOX-map = refl

-- each column of the matrix of MixColumns, times a byte
first_column : ℕ → List ℕ
first_column v = product 2 v ∷ v ∷ v ∷ product 3 v ∷ []

second_column : ℕ → List ℕ
second_column v = product 3 v ∷ product 2 v ∷ v ∷ v ∷ []

third_column : ℕ → List ℕ
third_column v = v ∷ product 3 v ∷ product 2 v ∷ v ∷ []

fourth_column : ℕ → List ℕ
fourth_column v = v ∷ v ∷ product 3 v ∷ product 2 v ∷ []

FIRST_COLUMN-map : map word_bytes FIRST_COLUMN ≡ map first_column S_BOX
unfolding word_bytes times_x product_of_bits product first_column
FIRST_COLUMN-map = refl

SECOND_COLUMN-map : map word_bytes SECOND_COLUMN ≡ map second_column S_BOX
unfolding word_bytes times_x product_of_bits product second_column
SECOND_COLUMN-map = refl

THIRD_COLUMN-map : map word_bytes THIRD_COLUMN ≡ map third_column S_BOX
unfolding word_bytes times_x product_of_bits product third_column
THIRD_COLUMN-map = refl

FOURTH_COLUMN-map : map word_bytes FOURTH_COLUMN ≡ map fourth_column S_BOX
unfolding word_bytes times_x product_of_bits product fourth_column
FOURTH_COLUMN-map = refl

-- a number below n, at its place in the list of them
get_or-range : (n a i : ℕ) → i < n → get_or (range_with_len a n) i 0 ≡ a + i
get_or-range zero a i h = absurd (omega arith)
get_or-range (suc n) a zero h = omega arith
get_or-range (suc n) a (suc i) h = get_or-range n (a + 1) i (omega arith) ∙ omega arith

length-range : (n a : ℕ) → length (range_with_len a n) ≡ n
length-range zero a = refl
length-range (suc n) a = ap suc (length-range n (a + 1))

pub get_or-S_BOX : (i : ℕ) → i < 256 → get_or S_BOX i 0 ≡ s_box i
get_or-S_BOX i h =
    let len : length (range_with_len 0 256) ≡ 256 = length-range 256 0 in
    ap (λ (xs : List ℕ). get_or xs i 0) S_BOX-map ∙ get_or-map s_box (range_with_len 0 256) i 0 0 (omega arith)
    ∙ ap s_box (get_or-range 256 0 i h ∙ omega arith)

-- a table of words whose bytes are a function of the S-box, at one place
get_or-table : (table : List ℕ) (f : ℕ → List ℕ) → map word_bytes table ≡ map f S_BOX → length table ≡ 256
    → (i : ℕ) → i < 256 → word_bytes (get_or table i 0) ≡ f (s_box i)
get_or-table table f same len i h =
    let boxes : length S_BOX ≡ 256 = refl in
    sym (get_or-map word_bytes table i 0 [] (omega arith)) ∙ ap (λ (xs : List (List ℕ)). get_or xs i []) same
    ∙ get_or-map f S_BOX i 0 [] (omega arith) ∙ ap f (get_or-S_BOX i h)

pub get_or-FIRST_COLUMN : (i : ℕ) → i < 256 → word_bytes (get_or FIRST_COLUMN i 0) ≡ product 2 (s_box i) ∷ s_box i ∷ s_box i
    ∷ product 3 (s_box i) ∷ []
unfolding first_column
get_or-FIRST_COLUMN i h = get_or-table FIRST_COLUMN first_column FIRST_COLUMN-map refl i h

pub get_or-SECOND_COLUMN : (i : ℕ) → i < 256 → word_bytes (get_or SECOND_COLUMN i 0) ≡ product 3 (s_box i) ∷ product 2 (s_box i)
    ∷ s_box i ∷ s_box i ∷ []
unfolding second_column
get_or-SECOND_COLUMN i h = get_or-table SECOND_COLUMN second_column SECOND_COLUMN-map refl i h

pub get_or-THIRD_COLUMN : (i : ℕ) → i < 256 → word_bytes (get_or THIRD_COLUMN i 0) ≡ s_box i ∷ product 3 (s_box i)
    ∷ product 2 (s_box i) ∷ s_box i ∷ []
unfolding third_column
get_or-THIRD_COLUMN i h = get_or-table THIRD_COLUMN third_column THIRD_COLUMN-map refl i h

pub get_or-FOURTH_COLUMN : (i : ℕ) → i < 256 → word_bytes (get_or FOURTH_COLUMN i 0) ≡ s_box i ∷ s_box i ∷ product 3 (s_box i)
    ∷ product 2 (s_box i) ∷ []
unfolding fourth_column
get_or-FOURTH_COLUMN i h = get_or-table FOURTH_COLUMN fourth_column FOURTH_COLUMN-map refl i h

-- every element of a list of bytes is one, and so is what is read past its end
below_by_test : (xs : List ℕ) → list_all (λ x. nat_lt x 256) xs ≡ true → (i : ℕ) → get_or xs i 0 < 256
below_by_test [] h i = omega arith
below_by_test (x ∷ xs) h zero = ltb-true _ _ (and_parts _ _ h).0
below_by_test (x ∷ xs) h (suc i) = below_by_test xs (and_parts _ _ h).1 i

pub S_BOX-below : (i : ℕ) → get_or S_BOX i 0 < 256
S_BOX-below i = below_by_test S_BOX refl i

ROUND_CONSTANTS-map : map word_bytes ROUND_CONSTANTS ≡ map round_constant (range_with_len 1 10)
unfolding word_bytes times_x product_of_bits product power
ROUND_CONSTANTS-map = refl

-- Rcon of round n + 1
pub get_or-ROUND_CONSTANTS : (n : ℕ) → n < 10 → word_bytes (get_or ROUND_CONSTANTS n 0) ≡ round_constant (n + 1)
get_or-ROUND_CONSTANTS n h =
    let len : length (range_with_len 1 10) ≡ 10 = length-range 10 1 in
    let words : length ROUND_CONSTANTS ≡ 10 = refl in
    sym (get_or-map word_bytes ROUND_CONSTANTS n 0 [] (omega arith))
    ∙ ap (λ (xs : List (List ℕ)). get_or xs n []) ROUND_CONSTANTS-map
    ∙ get_or-map round_constant (range_with_len 1 10) n 0 [] (omega arith)
    ∙ ap round_constant (get_or-range 10 1 n h ∙ omega arith)
