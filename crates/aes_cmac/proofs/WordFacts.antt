-- Words by their bytes.
use Rattle.std.proofs.Common.{◌≡◌, ℕ, zero, suc, ◌+◌, ◌/◌, ◌%◌, ◌^◌, ◌<◌, List, [], ◌∷◌, ◌++◌, length, get_or, drop, refl, ap}
use Rattle.std.proofs.Common.{sym, ◌∙◌, arith}
use Rattle.std.specs.Prelude.{bit_xor}
use Rattle.std.specs.Int.{w32, from_be_bytes}
use Rattle.std.proofs.lemmas.List.{drop_more, drop_all}
use Rattle.std.proofs.lemmas.Nat.{xor_shr, xor_mod, be_bytes_4}
use Rattle.aes_cmac.specs.Aes.{xor_bytes}
use Rattle.aes_cmac.specs.Words.{word_bytes}

-- one byte of xored words
byte-xor : (a b k : ℕ) → bit_xor a b / 2 ^ k % 2 ^ 8 ≡ bit_xor (a / 2 ^ k % 2 ^ 8) (b / 2 ^ k % 2 ^ 8)
byte-xor a b k = ap (λ (n : ℕ). n % 2 ^ 8) (xor_shr a b k) ∙ xor_mod (a / 2 ^ k) (b / 2 ^ k) 8

pub word_bytes-xor : (a b : ℕ) → word_bytes (bit_xor a b) ≡ xor_bytes (word_bytes a) (word_bytes b)
unfolding word_bytes
word_bytes-xor a b =
    ap (λ (n : ℕ). n ∷ bit_xor a b / 65536 % 256 ∷ bit_xor a b / 256 % 256 ∷ bit_xor a b % 256 ∷ []) (byte-xor a b 24)
    ∙ ap (λ (n : ℕ). bit_xor (a / 16777216 % 256) (b / 16777216 % 256) ∷ n ∷ bit_xor a b / 256 % 256 ∷ bit_xor a b % 256 ∷ [])
    (byte-xor a b 16)
    ∙ ap (λ (n : ℕ). bit_xor (a / 16777216 % 256) (b / 16777216 % 256) ∷ bit_xor (a / 65536 % 256) (b / 65536 % 256) ∷ n
    ∷ bit_xor a b % 256 ∷ []) (byte-xor a b 8)
    ∙ ap (λ (n : ℕ). bit_xor (a / 16777216 % 256) (b / 16777216 % 256) ∷ bit_xor (a / 65536 % 256) (b / 65536 % 256)
    ∷ bit_xor (a / 256 % 256) (b / 256 % 256) ∷ n ∷ []) (xor_mod a b 8)

-- each of four bytes, wherever it is read
four_below : (a b c d : ℕ) → a < 256 → b < 256 → c < 256 → d < 256 → (i : ℕ) → get_or (a ∷ b ∷ c ∷ d ∷ []) i 0 < 256
four_below a b c d ha hb hc hd zero = ha
four_below a b c d ha hb hc hd (suc zero) = hb
four_below a b c d ha hb hc hd (suc (suc zero)) = hc
four_below a b c d ha hb hc hd (suc (suc (suc zero))) = hd
four_below a b c d ha hb hc hd (suc (suc (suc (suc i)))) = omega arith

-- the bytes of a word that was made of four bytes
pub word_bytes-from : (a b c d n : ℕ) → a < 256 → b < 256 → c < 256 → d < 256
    → n ≡ from_be_bytes w32 (a ∷ b ∷ c ∷ d ∷ []) → word_bytes n ≡ a ∷ b ∷ c ∷ d ∷ []
unfolding word_bytes
word_bytes-from a b c d n ha hb hc hd e = be_bytes_4 (a ∷ b ∷ c ∷ d ∷ []) n refl (four_below a b c d ha hb hc hd) e

-- n elements of a list from place i on
places : List ℕ → ℕ → ℕ → List ℕ
places b i zero = []
places b i (suc n) = get_or b i 0 ∷ places b (i + 1) n

drop-places : (b : List ℕ) (i n : ℕ) → length b ≡ i + n → drop i b ≡ places b i n
unfolding places
drop-places b i zero len = drop_all i b (omega arith)
drop-places b i (suc n) len =
    drop_more b i 0 (omega arith) ∙ ap (λ (t : List ℕ). get_or b i 0 ∷ t) (drop-places b (i + 1) n (omega arith))

-- a list of sixteen bytes, byte by byte
pub sixteen : (b : List ℕ) → length b ≡ 16
    → b ≡ get_or b 0 0 ∷ get_or b 1 0 ∷ get_or b 2 0 ∷ get_or b 3 0 ∷ get_or b 4 0 ∷ get_or b 5 0 ∷ get_or b 6 0 ∷ get_or b 7 0
    ∷ get_or b 8 0 ∷ get_or b 9 0 ∷ get_or b 10 0 ∷ get_or b 11 0 ∷ get_or b 12 0 ∷ get_or b 13 0 ∷ get_or b 14 0 ∷ get_or b 15 0
    ∷ []
unfolding places
sixteen b len = drop-places b 0 16 len

-- four words of a block are its bytes
pub state_bytes-from : (b : List ℕ) (w x y z : ℕ) → length b ≡ 16
    → word_bytes w ≡ get_or b 0 0 ∷ get_or b 1 0 ∷ get_or b 2 0 ∷ get_or b 3 0 ∷ []
    → word_bytes x ≡ get_or b 4 0 ∷ get_or b 5 0 ∷ get_or b 6 0 ∷ get_or b 7 0 ∷ []
    → word_bytes y ≡ get_or b 8 0 ∷ get_or b 9 0 ∷ get_or b 10 0 ∷ get_or b 11 0 ∷ []
    → word_bytes z ≡ get_or b 12 0 ∷ get_or b 13 0 ∷ get_or b 14 0 ∷ get_or b 15 0 ∷ []
    → word_bytes w ++ word_bytes x ++ word_bytes y ++ word_bytes z ≡ b
state_bytes-from b w x y z len ew ex ey ez = rw (ew, ex, ey, ez) (sym (sixteen b len))

-- four bytes, each by its equation
pub four_equal : (a b c d a' b' c' d' : ℕ) → a ≡ a' → b ≡ b' → c ≡ c' → d ≡ d' → a ∷ b ∷ c ∷ d ∷ [] ≡ a' ∷ b' ∷ c' ∷ d' ∷ []
four_equal a b c d a' b' c' d' ea eb ec ed = cc
