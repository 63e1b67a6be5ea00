-- The subkeys, and a message that is taken in piece by piece.
use Rattle.std.proofs.Common.{◌≡◌, ℕ, zero, suc, ◌+◌, ◌*◌, ◌/◌, ◌%◌, ◌^◌, ◌<◌, ◌≤◌, replicate, List, [], ◌∷◌, length, get_or, set}
use Rattle.std.proofs.Common.{refl, subst, false, nat_lt, inl, inr, ap, sym, ◌∙◌, arith}
use Rattle.std.specs.Prelude.{bit_xor}
use Rattle.std.proofs.lemmas.Bool.{cases_lt}
use Rattle.std.proofs.lemmas.Bool.Decides.{nat_tests}
use Rattle.std.proofs.lemmas.List.{get_or-set_same, get_or-set_other, get_or_past, get_or_default, length-set, same_lists}
use Rattle.aes_cmac.specs.Aes.{xor_bytes, ciphertext}
use Rattle.aes_cmac.specs.Words.{four_words, IsSchedule, IsExpanded}
use Rattle.aes_cmac.proofs.ScheduleFacts.{four_words-key}
use Rattle.aes_cmac.specs.Mac.{shifted_left, doubled_block, carry_block, first_subkey, second_subkey}
use Rattle.aes_cmac.proofs.WordFacts.{sixteen}

pub length-shifted_left : (bs : List ℕ) → length (shifted_left bs) ≡ length bs
length-shifted_left [] = refl
length-shifted_left (b ∷ bs) = ap suc (length-shifted_left bs)

-- a byte of a shifted block; past its end stands 0
pub get_or-shifted_left : (bs : List ℕ) (i : ℕ) → i < length bs
    → get_or (shifted_left bs) i 0 ≡ 2 * get_or bs i 0 % 256 + get_or bs (i + 1) 0 / 128
get_or-shifted_left [] i h = absurd (omega arith)
get_or-shifted_left (b ∷ bs) zero h = refl
get_or-shifted_left (b ∷ bs) (suc i) h =
    let next : suc i + 1 ≡ suc (i + 1) = omega arith in
    rw next (get_or-shifted_left bs i (omega arith))

-- one element more of a list that is written from its start on
pub same_more : (out target : List ℕ) (i v : ℕ) → i < length out → v ≡ get_or target i 0
    → ((k : ℕ) → k < i → get_or out k 0 ≡ get_or target k 0)
    → (k : ℕ) → k < i + 1 → get_or (set out i v) k 0 ≡ get_or target k 0
same_more out target i v room is done k low =
    elim (cases_lt k i) [
      | inl below ↦ get_or-set_other out i k v 0 (omega arith) ∙ done k below
      | inr over ↦
          let here : k ≡ i = omega arith in
          rw here (get_or-set_same out i v 0 room ∙ is)
    ]

-- a list that is written whole
pub same_all : (out target : List ℕ) (n : ℕ) → length out ≡ n → length target ≡ n
    → ((k : ℕ) → k < n → get_or out k 0 ≡ get_or target k 0) → out ≡ target
same_all out target n len width same =
    same_lists out target (len ∙ sym width) (λ k d h.
    get_or_default out k d 0 h ∙ same k (omega arith) ∙ get_or_default target k 0 d (omega arith))

-- a byte that is shifted, and the bit that comes from the next one
pub shifted_byte : (bs : List ℕ) (i v : ℕ) → i < length bs → v ≡ get_or bs i 0 % 128 * 2 + get_or bs (i + 1) 0 / 128
    → v ≡ get_or (shifted_left bs) i 0
shifted_byte bs i v within is =
    let value : v ≡ 2 * get_or bs i 0 % 256 + get_or bs (i + 1) 0 / 128 = omega arith in
    value ∙ sym (get_or-shifted_left bs i within)

-- a block whose bytes are all shifted
pub shifted_all : (out bs : List ℕ) (v : ℕ) → length out ≡ 16 → length bs ≡ 16 → v ≡ get_or bs 15 0 % 128 * 2
    → ((k : ℕ) → k < 15 → get_or out k 0 ≡ get_or (shifted_left bs) k 0) → set out 15 v ≡ shifted_left bs
shifted_all out bs v len width is done =
    let past : get_or bs 16 0 ≡ 0 = get_or_past bs 16 0 (omega arith) in
    same_all (set out 15 v) (shifted_left bs) 16 (length-set out 15 v ∙ len) (length-shifted_left bs ∙ width)
    (same_more out (shifted_left bs) 15 v (omega arith) (shifted_byte bs 15 v (omega arith) (omega arith)) done)

-- ---- xored lists of bytes

pub get_or-xor_bytes : (a b : List ℕ) (k : ℕ) → k < length a → k < length b
    → get_or (xor_bytes a b) k 0 ≡ bit_xor (get_or a k 0) (get_or b k 0)
get_or-xor_bytes [] b k ha hb = absurd (omega arith)
get_or-xor_bytes (x ∷ xs) [] k ha hb = absurd (omega arith)
get_or-xor_bytes (x ∷ xs) (y ∷ ys) zero ha hb = refl
get_or-xor_bytes (x ∷ xs) (y ∷ ys) (suc k) ha hb = get_or-xor_bytes xs ys k (omega arith) (omega arith)

-- 87 hexadecimal added to the last byte
pub carried : (xs : List ℕ) → length xs ≡ 16 → set xs 15 (bit_xor 0x87 (get_or xs 15 0)) ≡ xor_bytes carry_block xs
carried xs len =
    subst (λ (ys : List ℕ). set ys 15 (bit_xor 0x87 (get_or ys 15 0)) ≡ xor_bytes carry_block ys) (sym (sixteen xs len)) refl

pub doubled_block-carry : (l : List ℕ) → 128 ≤ get_or l 0 0 → doubled_block l ≡ xor_bytes carry_block (shifted_left l)
doubled_block-carry l h =
    let test : nat_lt (get_or l 0 0) 128 ≡ false = grind (arith, nat_tests) in
    rw test refl

-- what a new key holds
pub expanded_key : (words key first second zeros : List ℕ) → length words ≡ 44 → length key ≡ 16 → IsSchedule words key
    → ((i : ℕ) → get_or words i 0 < 2 ^ 32) → zeros ≡ ciphertext key (replicate 16 0) → first ≡ doubled_block zeros
    → second ≡ doubled_block first
    → IsExpanded words first second
unfolding first_subkey second_subkey
expanded_key words key first second zeros len width is fits ez ef es =
    let same : four_words words 0 ≡ key = four_words-key words key is len width in
    let one : first ≡ doubled_block (ciphertext key (replicate 16 0)) = ef ∙ ap (λ (b : List ℕ). doubled_block b) ez in
    record {
      schedule = rw same is;
      fits = fits;
      first_is = rw same one;
      second_is = rw same (es ∙ ap (λ (b : List ℕ). doubled_block b) one);
    }
