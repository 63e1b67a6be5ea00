-- The key schedule, as numbers and as words of bytes.
use Rattle.std.proofs.Common.{◌≡◌, ℕ, zero, suc, ◌+◌, ◌-◌, ◌*◌, ◌/◌, ◌%◌, ◌^◌, ◌<◌, ◌≤◌, List, [], ◌∷◌, ◌++◌, length, get_or, set}
use Rattle.std.proofs.Common.{map, take, drop, refl, subst, replicate, lit<, ap, sym, ◌∙◌, arith}
use Rattle.std.proofs.Common.{false, true}
use Rattle.std.proofs.lemmas.Bool.Decides.{nat_tests}
use Rattle.aes_cmac.specs.declared.tables.TheConstants.{ROUND_CONSTANTS}
use Rattle.aes_cmac.specs.Field.{s_box}
use Rattle.aes_cmac.proofs.TableFacts.{get_or-ROUND_CONSTANTS}
use Rattle.std.specs.Prelude.{◌==◌, bit_xor}
use Rattle.std.specs.Int.{w32, rotate_left}
use Rattle.std.specs.Int.Bits.{bit_or}
use Rattle.std.proofs.lemmas.Grind.{or_after_shift}
use Rattle.std.proofs.lemmas.List.{get_or-map, get_or-take, length-take-le, take_all, take_more_set, map_push, get_or_append_left}
use Rattle.aes_cmac.specs.Aes.{xor_bytes, shift_rows, sub_bytes, mix_columns, state_after, ciphertext, added_word, next_word}
use Rattle.aes_cmac.specs.Aes.{key_words, round_key, word_at, round_constant, rot_word, sub_word}
use Rattle.aes_cmac.proofs.Lengths.{length-key_words}
use Rattle.aes_cmac.specs.Words.{word_bytes, byte_of, four_words, IsSchedule}
use Rattle.aes_cmac.proofs.WordFacts.{word_bytes-xor, sixteen, four_equal}

-- a word of the schedule so far
word_at-map : (ws : List ℕ) (i k : ℕ) → k < i → i ≤ length ws
    → word_at (map word_bytes (take i ws)) k ≡ word_bytes (get_or ws k 0)
word_at-map ws i k below within =
    let len : length (take i ws) ≡ i = length-take-le i ws within in
    get_or-map word_bytes (take i ws) k 0 [] (omega arith) ∙ ap word_bytes (get_or-take i ws k 0 below)

-- one word more of the schedule
pub key_words-more : (key ws : List ℕ) (i v t : ℕ) → length ws ≡ 44 → 4 ≤ i → i < 44
    → map word_bytes (take i ws) ≡ key_words key (i - 4) → v ≡ bit_xor (get_or ws (i - 4) 0) t
    → word_bytes t ≡ added_word (word_bytes (get_or ws (i - 1) 0)) i
    → map word_bytes (take (i + 1) (set ws i v)) ≡ key_words key (i + 1 - 4)
unfolding key_words
key_words-more key ws i v t len low high done is_xor is_added =
    let next : i + 1 - 4 ≡ suc (i - 4) = omega arith in
    let back : i - 4 + 4 ≡ i = omega arith in
    let first : word_at (key_words key (i - 4)) (i - 4) ≡ word_bytes (get_or ws (i - 4) 0) =
    ap (λ (w : List (List ℕ)). word_at w (i - 4)) (sym done) ∙ word_at-map ws i (i - 4) (omega arith) (omega arith) in
    let second : word_at (key_words key (i - 4)) (i - 1) ≡ word_bytes (get_or ws (i - 1) 0) =
    ap (λ (w : List (List ℕ)). word_at w (i - 1)) (sym done) ∙ word_at-map ws i (i - 1) (omega arith) (omega arith) in
    let word : word_bytes v ≡ next_word (key_words key (i - 4)) (i - 4 + 4) =
    ap word_bytes is_xor ∙ word_bytes-xor (get_or ws (i - 4) 0) t
    ∙ ap (λ (x : List ℕ). xor_bytes (word_bytes (get_or ws (i - 4) 0)) x) is_added
    ∙ ap (λ (x : List ℕ). xor_bytes x (added_word (word_bytes (get_or ws (i - 1) 0)) i)) (sym first)
    ∙ ap (λ (x : List ℕ). xor_bytes (word_at (key_words key (i - 4)) (i - 4)) (added_word x i)) (sym second)
    ∙ ap (λ (n : ℕ). next_word (key_words key (i - 4)) n) (sym back) in
    ap (map word_bytes) (take_more_set ws i v (omega arith)) ∙ map_push word_bytes (take i ws) v
    ∙ ap (λ (w : List (List ℕ)). w ++ word_bytes v ∷ []) done ∙ ap (λ (x : List ℕ). key_words key (i - 4) ++ x ∷ []) word
    ∙ ap (key_words key) (sym next)

pub key_words-all : (key ws : List ℕ) (i : ℕ) → i ≡ 44 → length ws ≡ 44 → map word_bytes (take i ws) ≡ key_words key (i - 4)
    → IsSchedule ws key
key_words-all key ws i last len done =
    let back : i - 4 ≡ 40 = omega arith in
    let whole : take i ws ≡ ws = take_all i ws (omega arith) in
    ap (map word_bytes) (sym whole) ∙ done ∙ ap (key_words key) back

-- the first four words are the key's bytes
pub key_words-none : (key : List ℕ) (a b c d : ℕ) → length key ≡ 16
    → word_bytes a ≡ get_or key 0 0 ∷ get_or key 1 0 ∷ get_or key 2 0 ∷ get_or key 3 0 ∷ []
    → word_bytes b ≡ get_or key 4 0 ∷ get_or key 5 0 ∷ get_or key 6 0 ∷ get_or key 7 0 ∷ []
    → word_bytes c ≡ get_or key 8 0 ∷ get_or key 9 0 ∷ get_or key 10 0 ∷ get_or key 11 0 ∷ []
    → word_bytes d ≡ get_or key 12 0 ∷ get_or key 13 0 ∷ get_or key 14 0 ∷ get_or key 15 0 ∷ []
    → word_bytes a ∷ word_bytes b ∷ word_bytes c ∷ word_bytes d ∷ [] ≡ key_words key 0
unfolding key_words
key_words-none key a b c d len ea eb ec ed =
    rw (ea, eb, ec, ed)
    (ap (λ (k : List ℕ). take 4 k ∷ take 4 (drop 4 k) ∷ take 4 (drop 8 k) ∷ take 4 (drop 12 k) ∷ []) (sym (sixteen key len)))

-- a word of a whole schedule
schedule_word : (ws key : List ℕ) (k : ℕ) → IsSchedule ws key → k < length ws
    → word_bytes (get_or ws k 0) ≡ word_at (key_words key 40) k
schedule_word ws key k is below =
    sym (get_or-map word_bytes ws k 0 [] below) ∙ ap (λ (w : List (List ℕ)). word_at w k) is

-- a round key
pub four_words-round_key : (ws key : List ℕ) (n : ℕ) → IsSchedule ws key → length ws ≡ 44 → n ≤ 10
    → four_words ws (4 * n) ≡ round_key key n
unfolding round_key
four_words-round_key ws key n is len low =
    rw (
      schedule_word ws key (4 * n) is (omega arith),
      schedule_word ws key (4 * n + 1) is (omega arith),
      schedule_word ws key (4 * n + 2) is (omega arith),
      schedule_word ws key (4 * n + 3) is (omega arith),
    ) refl

-- a word turned by a byte is its low three bytes above its high one
turned_sum : (n : ℕ) → n < 2 ^ 32 → rotate_left w32 n 8 ≡ n % 16777216 * 256 + n / 16777216
turned_sum n fits =
    let low : n * 256 % 4294967296 ≡ n % 16777216 * 256 % 4294967296 = omega arith in
    ap (λ (x : ℕ). bit_or x (n / 16777216)) low
    ∙ or_after_shift (n % 16777216) 256 4294967296 (n / 16777216) refl (omega arith) (omega arith)

-- a word turned by a byte
pub turned_bytes : (n t : ℕ) → n < 2 ^ 32 → t ≡ rotate_left w32 n 8
    → (byte_of t 0 ≡ byte_of n 1) × (byte_of t 1 ≡ byte_of n 2) × (byte_of t 2 ≡ byte_of n 3) × (byte_of t 3 ≡ byte_of n 0)
unfolding byte_of
turned_bytes n t fits e =
    let sum = e ∙ turned_sum n fits in
    (omega (arith, sum), omega (arith, sum), omega (arith, sum), omega (arith, sum))

pub added_word-same : (n i : ℕ) → 0 < i % 4 → word_bytes n ≡ added_word (word_bytes n) i
added_word-same n i h =
    let test : (i % 4 == 0) ≡ false = grind (arith, nat_tests) in
    rw test refl

turned_word : (n : ℕ) → sub_word (rot_word (word_bytes n)) ≡ s_box (byte_of n 1) ∷ s_box (byte_of n 2) ∷ s_box (byte_of n 3)
    ∷ s_box (byte_of n 0) ∷ []
unfolding word_bytes byte_of
turned_word n = refl

-- the S-box of the turned word's bytes, and Rcon
pub added_word-turned : (n t i r : ℕ) → n < 2 ^ 32 → 4 ≤ i → i < 44 → i % 4 ≡ 0
    → t ≡ rotate_left w32 n 8
    → word_bytes r ≡ xor_bytes (s_box (byte_of t 0) ∷ s_box (byte_of t 1) ∷ s_box (byte_of t 2) ∷ s_box (byte_of t 3) ∷ [])
    (word_bytes (get_or ROUND_CONSTANTS (i / 4 - 1) 0))
    → word_bytes r ≡ added_word (word_bytes n) i
added_word-turned n t i r fits low high whole et er =
    let test : (i % 4 == 0) ≡ true = grind (arith, nat_tests) in
    let turned = turned_bytes n t fits et in
    let constant : i / 4 - 1 + 1 ≡ i / 4 = omega arith in
    rw test
    (er
    ∙ ap (λ (x : List ℕ). xor_bytes x (word_bytes (get_or ROUND_CONSTANTS (i / 4 - 1) 0)))
    (four_equal _ _ _ _ _ _ _ _ (ap s_box turned.0) (ap s_box turned.1) (ap s_box turned.2) (ap s_box turned.3)
    ∙ sym (turned_word n))
    ∙ ap (λ (x : List ℕ). xor_bytes (sub_word (rot_word (word_bytes n))) x)
    (get_or-ROUND_CONSTANTS (i / 4 - 1) (omega arith) ∙ ap round_constant constant))

-- ---- the rounds, with the words of a schedule as round keys

pub state_after-none : (ws key block v w : List ℕ) → IsSchedule ws key → length ws ≡ 44 → v ≡ block
    → w ≡ xor_bytes v (four_words ws 0) → w ≡ state_after key block 0
unfolding state_after
state_after-none ws key block v w is len ev ew =
    ew ∙ ap (λ (s : List ℕ). xor_bytes s (four_words ws 0)) ev
    ∙ ap (xor_bytes block) (four_words-round_key ws key 0 is len (omega arith))

pub state_after-more : (ws key block v w : List ℕ) (n : ℕ) → IsSchedule ws key → length ws ≡ 44 → 1 ≤ n → n ≤ 10
    → v ≡ state_after key block (n - 1)
    → w ≡ xor_bytes (mix_columns (shift_rows (sub_bytes v))) (four_words ws (4 * n))
    → w ≡ state_after key block (n + 1 - 1)
unfolding state_after
state_after-more ws key block v w n is len low high ev ew =
    let back : n + 1 - 1 ≡ suc (n - 1) = omega arith in
    let same : n ≡ suc (n - 1) = omega arith in
    ew ∙ ap (λ (s : List ℕ). xor_bytes (mix_columns (shift_rows (sub_bytes s))) (four_words ws (4 * n))) ev
    ∙ ap (xor_bytes (mix_columns (shift_rows (sub_bytes (state_after key block (n - 1))))))
    (four_words-round_key ws key n is len high ∙ ap (round_key key) same)
    ∙ ap (state_after key block) (sym back)

pub ciphertext-last : (ws key block v w : List ℕ) (n : ℕ) → IsSchedule ws key → length ws ≡ 44 → n ≡ 9
    → v ≡ state_after key block n
    → w ≡ xor_bytes (shift_rows (sub_bytes v)) (four_words ws 40)
    → w ≡ ciphertext key block
unfolding ciphertext
ciphertext-last ws key block v w n is len last ev ew =
    ew ∙ ap (λ (s : List ℕ). xor_bytes (shift_rows (sub_bytes s)) (four_words ws 40)) (ev ∙ ap (state_after key block) last)
    ∙ ap (xor_bytes (shift_rows (sub_bytes (state_after key block 9)))) (four_words-round_key ws key 10 is len (omega arith))

-- ---- the key, from its schedule

-- the first words stay as they are
word_at-key_words : (key : List ℕ) (n k : ℕ) → k < 4 → word_at (key_words key n) k ≡ word_at (key_words key 0) k
unfolding key_words
word_at-key_words key zero k h = refl
word_at-key_words key (suc n) k h =
    get_or_append_left (key_words key n) (next_word (key_words key n) (n + 4) ∷ []) [] k (omega (arith, length-key_words key n))
    ∙ word_at-key_words key n k h

key_words-front : (key : List ℕ) → length key ≡ 16
    → word_at (key_words key 0) 0 ++ word_at (key_words key 0) 1 ++ word_at (key_words key 0) 2 ++ word_at (key_words key 0) 3
    ≡ key
unfolding key_words
key_words-front key len =
    subst (λ (k : List ℕ). take 4 k ++ take 4 (drop 4 k) ++ take 4 (drop 8 k) ++ take 4 (drop 12 k) ≡ k)
    (sym (sixteen key len)) refl

-- the first four words of a key's schedule are the key
pub four_words-key : (ws key : List ℕ) → IsSchedule ws key → length ws ≡ 44 → length key ≡ 16 → four_words ws 0 ≡ key
four_words-key ws key is len width =
    rw (
      schedule_word ws key 0 is (omega arith),
      schedule_word ws key 1 is (omega arith),
      schedule_word ws key 2 is (omega arith),
      schedule_word ws key 3 is (omega arith),
      word_at-key_words key 40 0 (omega arith),
      word_at-key_words key 40 1 (omega arith),
      word_at-key_words key 40 2 (omega arith),
      word_at-key_words key 40 3 (omega arith),
    )
    (key_words-front key width)

-- ---- words of 32 bits

zeros_fit : (n k : ℕ) → get_or (replicate n 0) k 0 < 2 ^ 32
zeros_fit zero k = lit< tt
zeros_fit (suc n) zero = lit< tt
zeros_fit (suc n) (suc k) = zeros_fit n k

pub four_fit : (a b c d n : ℕ) → a < 2 ^ 32 → b < 2 ^ 32 → c < 2 ^ 32 → d < 2 ^ 32
    → (k : ℕ) → get_or (a ∷ b ∷ c ∷ d ∷ replicate n 0) k 0 < 2 ^ 32
four_fit a b c d n ha hb hc hd zero = ha
four_fit a b c d n ha hb hc hd (suc zero) = hb
four_fit a b c d n ha hb hc hd (suc (suc zero)) = hc
four_fit a b c d n ha hb hc hd (suc (suc (suc zero))) = hd
four_fit a b c d n ha hb hc hd (suc (suc (suc (suc k)))) = zeros_fit n k

pub set_fits : (ws : List ℕ) (i v : ℕ) → v < 2 ^ 32 → ((k : ℕ) → get_or ws k 0 < 2 ^ 32) → (k : ℕ)
    → get_or (set ws i v) k 0 < 2 ^ 32
set_fits [] i v hv h k = h k
set_fits (w ∷ ws) zero v hv h zero = hv
set_fits (w ∷ ws) zero v hv h (suc k) = h (suc k)
set_fits (w ∷ ws) (suc i) v hv h zero = h zero
set_fits (w ∷ ws) (suc i) v hv h (suc k) = set_fits ws i v hv (λ j. h (suc j)) k
