-- A round of the state, column by column.
use Rattle.std.proofs.Common.{◌≡◌, ℕ, ◌<◌, ◌/◌, ◌%◌, ◌^◌, get_or, ◌++◌, List, [], ◌∷◌, refl, ap, ◌∙◌, arith}
use Rattle.std.specs.Prelude.{bit_xor}
use Rattle.std.specs.Int.{w32, from_be_bytes}
use Rattle.aes_cmac.specs.Field.{product, s_box}
use Rattle.aes_cmac.specs.Aes.{xor_bytes, mixed_column, mix_columns, shift_rows, sub_bytes}
use Rattle.aes_cmac.specs.Words.{word_bytes, byte_of}
use Rattle.aes_cmac.specs.declared.tables.TheConstants.{S_BOX, FIRST_COLUMN, SECOND_COLUMN, THIRD_COLUMN, FOURTH_COLUMN}
use Rattle.aes_cmac.proofs.TableFacts.{S_BOX-below, get_or-S_BOX, get_or-FIRST_COLUMN, get_or-SECOND_COLUMN, get_or-THIRD_COLUMN}
use Rattle.aes_cmac.proofs.TableFacts.{get_or-FOURTH_COLUMN}
use Rattle.aes_cmac.proofs.WordFacts.{four_equal, word_bytes-xor, word_bytes-from}

-- four columns of the matrix, each times a byte, and a word of the round key, all xored
pub mixed-xor : (w x y z k a b c d : ℕ) → word_bytes w ≡ product 2 a ∷ a ∷ a ∷ product 3 a ∷ []
    → word_bytes x ≡ product 3 b ∷ product 2 b ∷ b ∷ b ∷ []
    → word_bytes y ≡ c ∷ product 3 c ∷ product 2 c ∷ c ∷ []
    → word_bytes z ≡ d ∷ d ∷ product 3 d ∷ product 2 d ∷ []
    → word_bytes (bit_xor (bit_xor (bit_xor (bit_xor w x) y) z) k) ≡ xor_bytes (mixed_column a b c d) (word_bytes k)
mixed-xor w x y z k a b c d ew ex ey ez =
    rw (
      word_bytes-xor (bit_xor (bit_xor (bit_xor w x) y) z) k,
      word_bytes-xor (bit_xor (bit_xor w x) y) z,
      word_bytes-xor (bit_xor w x) y,
      word_bytes-xor w x,
      ew,
      ex,
      ey,
      ez,
    ) refl

-- a column that the tables give
pub mixed-tables : (a b c d k : ℕ) → a < 2 ^ 32
    → word_bytes (bit_xor (bit_xor (bit_xor (bit_xor (get_or FIRST_COLUMN (a / 2 ^ 24) 0)
    (get_or SECOND_COLUMN (b / 2 ^ 16 % 256) 0)) (get_or THIRD_COLUMN (c / 2 ^ 8 % 256) 0))
    (get_or FOURTH_COLUMN (d % 256) 0)) k)
    ≡ xor_bytes (mixed_column (s_box (byte_of a 0)) (s_box (byte_of b 1)) (s_box (byte_of c 2)) (s_box (byte_of d 3)))
    (word_bytes k)
unfolding byte_of
mixed-tables a b c d k fits =
    let whole : a / 2 ^ 24 ≡ a / 2 ^ 24 % 256 = omega arith in
    mixed-xor _ _ _ _ k _ _ _ _ (ap (λ (i : ℕ). word_bytes (get_or FIRST_COLUMN i 0)) whole
    ∙ get_or-FIRST_COLUMN (a / 2 ^ 24 % 256) (omega arith))
    (get_or-SECOND_COLUMN (b / 2 ^ 16 % 256) (omega arith))
    (get_or-THIRD_COLUMN (c / 2 ^ 8 % 256) (omega arith)) (get_or-FOURTH_COLUMN (d % 256) (omega arith))

-- a column that the S-box gives
pub substituted-tables : (a b c d n k : ℕ) → a < 2 ^ 32
    → n ≡ from_be_bytes w32 (get_or S_BOX (a / 2 ^ 24) 0 ∷ get_or S_BOX (b / 2 ^ 16 % 256) 0 ∷ get_or S_BOX (c / 2 ^ 8 % 256) 0
    ∷ get_or S_BOX (d % 256) 0 ∷ [])
    → word_bytes (bit_xor n k)
    ≡ xor_bytes (s_box (byte_of a 0) ∷ s_box (byte_of b 1) ∷ s_box (byte_of c 2) ∷ s_box (byte_of d 3) ∷ []) (word_bytes k)
unfolding byte_of
substituted-tables a b c d n k fits e =
    let whole : a / 2 ^ 24 ≡ a / 2 ^ 24 % 256 = omega arith in
    word_bytes-xor n k
    ∙ ap (λ (x : List ℕ). xor_bytes x (word_bytes k))
    (word_bytes-from _ _ _ _ n (S_BOX-below (a / 2 ^ 24)) (S_BOX-below (b / 2 ^ 16 % 256)) (S_BOX-below (c / 2 ^ 8 % 256))
    (S_BOX-below (d % 256)) e
    ∙ four_equal _ _ _ _ _ _ _ _ (ap (λ (i : ℕ). get_or S_BOX i 0) whole ∙ get_or-S_BOX (a / 2 ^ 24 % 256) (omega arith))
    (get_or-S_BOX (b / 2 ^ 16 % 256) (omega arith)) (get_or-S_BOX (c / 2 ^ 8 % 256) (omega arith))
    (get_or-S_BOX (d % 256) (omega arith)))

-- four lists, end to end
append_four : (a b c d a' b' c' d' : List ℕ) → a ≡ a' → b ≡ b' → c ≡ c' → d ≡ d' → a ++ b ++ c ++ d ≡ a' ++ b' ++ c' ++ d'
append_four a b c d a' b' c' d' ea eb ec ed = rw (ea, eb, ec, ed) refl

-- four columns that are each mixed are the round of the state
pub middle_round-columns : (p q r s j k l m w x y z : ℕ)
    → word_bytes w ≡ xor_bytes (mixed_column (s_box (byte_of p 0)) (s_box (byte_of q 1)) (s_box (byte_of r 2))
    (s_box (byte_of s 3))) (word_bytes j)
    → word_bytes x ≡ xor_bytes (mixed_column (s_box (byte_of q 0)) (s_box (byte_of r 1)) (s_box (byte_of s 2))
    (s_box (byte_of p 3))) (word_bytes k)
    → word_bytes y ≡ xor_bytes (mixed_column (s_box (byte_of r 0)) (s_box (byte_of s 1)) (s_box (byte_of p 2))
    (s_box (byte_of q 3))) (word_bytes l)
    → word_bytes z ≡ xor_bytes (mixed_column (s_box (byte_of s 0)) (s_box (byte_of p 1)) (s_box (byte_of q 2))
    (s_box (byte_of r 3))) (word_bytes m)
    → word_bytes w ++ word_bytes x ++ word_bytes y ++ word_bytes z
    ≡ xor_bytes (mix_columns (shift_rows (sub_bytes (word_bytes p ++ word_bytes q ++ word_bytes r ++ word_bytes s))))
    (word_bytes j ++ word_bytes k ++ word_bytes l ++ word_bytes m)
unfolding word_bytes byte_of
middle_round-columns p q r s j k l m w x y z ew ex ey ez = append_four _ _ _ _ _ _ _ _ ew ex ey ez

-- the same without mixing
pub last_round-columns : (p q r s j k l m w x y z : ℕ)
    → word_bytes w ≡ xor_bytes (s_box (byte_of p 0) ∷ s_box (byte_of q 1) ∷ s_box (byte_of r 2) ∷ s_box (byte_of s 3) ∷ [])
    (word_bytes j)
    → word_bytes x ≡ xor_bytes (s_box (byte_of q 0) ∷ s_box (byte_of r 1) ∷ s_box (byte_of s 2) ∷ s_box (byte_of p 3) ∷ [])
    (word_bytes k)
    → word_bytes y ≡ xor_bytes (s_box (byte_of r 0) ∷ s_box (byte_of s 1) ∷ s_box (byte_of p 2) ∷ s_box (byte_of q 3) ∷ [])
    (word_bytes l)
    → word_bytes z ≡ xor_bytes (s_box (byte_of s 0) ∷ s_box (byte_of p 1) ∷ s_box (byte_of q 2) ∷ s_box (byte_of r 3) ∷ [])
    (word_bytes m)
    → word_bytes w ++ word_bytes x ++ word_bytes y ++ word_bytes z
    ≡ xor_bytes (shift_rows (sub_bytes (word_bytes p ++ word_bytes q ++ word_bytes r ++ word_bytes s)))
    (word_bytes j ++ word_bytes k ++ word_bytes l ++ word_bytes m)
unfolding word_bytes byte_of
last_round-columns p q r s j k l m w x y z ew ex ey ez = append_four _ _ _ _ _ _ _ _ ew ex ey ez

-- four columns xored with four words
pub first_xor-columns : (p q r s j k l m : ℕ)
    → word_bytes (bit_xor p j) ++ word_bytes (bit_xor q k) ++ word_bytes (bit_xor r l) ++ word_bytes (bit_xor s m)
    ≡ xor_bytes (word_bytes p ++ word_bytes q ++ word_bytes r ++ word_bytes s)
    (word_bytes j ++ word_bytes k ++ word_bytes l ++ word_bytes m)
unfolding word_bytes
first_xor-columns p q r s j k l m =
    append_four _ _ _ _ _ _ _ _ (word_bytes-xor p j) (word_bytes-xor q k) (word_bytes-xor r l) (word_bytes-xor s m)
