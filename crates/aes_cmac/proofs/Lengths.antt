-- How long the lists of the definitions are.
use Rattle.std.proofs.Common.{◌≡◌, ℕ, zero, suc, ◌+◌, ◌-◌, ◌%◌, ◌/◌, ◌<◌, Bool, true, false, List, [], ◌∷◌, ◌++◌, length, take}
use Rattle.std.proofs.Common.{drop, inl, inr, refl, ap, sym, ◌∙◌, arith}
use Rattle.std.specs.Prelude.{◌==◌, if◌then◌else◌}
use Rattle.std.proofs.lemmas.Bool.{cases_lt}
use Rattle.std.proofs.lemmas.List.{length-append, length-drop, length-map, length-take, length-take-le, get_or_append_left}
use Rattle.std.proofs.lemmas.List.{get_or_push}
use Rattle.aes_cmac.specs.Field.{s_box}
use Rattle.aes_cmac.specs.Aes.{xor_bytes, rot_word, sub_word, added_word, round_constant, next_word, word_at, key_words}
use Rattle.aes_cmac.specs.Aes.{round_key, shift_rows, sub_bytes, state_after, ciphertext}
use Rattle.aes_cmac.specs.Mac.{cmac}

pub length-xor_bytes : (a b : List ℕ) → length a ≡ length b → length (xor_bytes a b) ≡ length a
length-xor_bytes [] b h = refl
length-xor_bytes (x ∷ xs) [] h = absurd (omega arith)
length-xor_bytes (x ∷ xs) (y ∷ ys) h = ap suc (length-xor_bytes xs ys (omega arith))

pub length-key_words : (key : List ℕ) (n : ℕ) → length (key_words key n) ≡ n + 4
unfolding key_words
length-key_words key zero = refl
length-key_words key (suc n) =
    length-append (key_words key n) (next_word (key_words key n) (n + 4) ∷ []) ∙ ap (λ (k : ℕ). k + 1) (length-key_words key n)
    ∙ omega arith

length-rot_word : (w : List ℕ) → length w ≡ 4 → length (rot_word w) ≡ 4
length-rot_word w h = length-append (drop 1 w) (take 1 w) ∙ omega (arith, length-drop 1 w, length-take 1 w)

length-added : (w c : List ℕ) (b : Bool) → length w ≡ 4 → length c ≡ 4
    → length (if b then xor_bytes (sub_word (rot_word w)) c else w) ≡ 4
length-added w c true hw hc =
    let turned : length (sub_word (rot_word w)) ≡ 4 = length-map (rot_word w) s_box ∙ length-rot_word w hw in
    length-xor_bytes (sub_word (rot_word w)) c (turned ∙ sym hc) ∙ turned
length-added w c false hw hc = hw

-- every word of the schedule of a key of 16 bytes has 4
length-word : (key : List ℕ) (n k : ℕ) → length key ≡ 16 → k < n + 4 → length (word_at (key_words key n) k) ≡ 4
unfolding key_words
length-word key zero zero h low = length-take-le 4 key (omega arith)
length-word key zero (suc zero) h low = length-take-le 4 (drop 4 key) (omega (arith, length-drop 4 key))
length-word key zero (suc (suc zero)) h low = length-take-le 4 (drop 8 key) (omega (arith, length-drop 8 key))
length-word key zero (suc (suc (suc zero))) h low = length-take-le 4 (drop 12 key) (omega (arith, length-drop 12 key))
length-word key zero (suc (suc (suc (suc k)))) h low = absurd (omega arith)
length-word key (suc n) k h low =
    elim (cases_lt k (n + 4)) [
      | inl below ↦
          ap (λ (w : List ℕ). length w) (get_or_append_left (key_words key n) (next_word (key_words key n) (n + 4) ∷ []) [] k
          (omega (arith, length-key_words key n)))
          ∙ length-word key n k h below
      | inr over ↦
          let here : k ≡ n + 4 = omega arith in
          let first : length (word_at (key_words key n) (n + 4 - 4)) ≡ 4 = length-word key n (n + 4 - 4) h (omega arith) in
          let second : length (word_at (key_words key n) (n + 4 - 1)) ≡ 4 = length-word key n (n + 4 - 1) h (omega arith) in
          let added : length (added_word (word_at (key_words key n) (n + 4 - 1)) (n + 4)) ≡ 4 =
          length-added (word_at (key_words key n) (n + 4 - 1)) (round_constant ((n + 4) / 4))
          ((n + 4) % 4 == 0) second refl in
          ap (λ (w : List ℕ). length w) (get_or_push (key_words key n) (next_word (key_words key n) (n + 4)) [] k
          (length-key_words key n ∙ sym here))
          ∙ length-xor_bytes (word_at (key_words key n) (n + 4 - 4)) (added_word (word_at (key_words key n) (n + 4 - 1)) (n + 4))
          (first ∙ sym added) ∙ first
    ]

length-round_key : (key : List ℕ) → length key ≡ 16 → length (round_key key 10) ≡ 16
unfolding round_key
length-round_key key h =
    let w = word_at (key_words key 40) in
    omega (
      arith,
      length-append (w 40 ++ w 41 ++ w 42) (w 43),
      length-append (w 40 ++ w 41) (w 42),
      length-append (w 40) (w 41),
      length-word key 40 40 h (omega arith),
      length-word key 40 41 h (omega arith),
      length-word key 40 42 h (omega arith),
      length-word key 40 43 h (omega arith),
    )

-- under a key of 16 bytes a block has 16 bytes
pub length-ciphertext : (key block : List ℕ) → length key ≡ 16 → length (ciphertext key block) ≡ 16
unfolding ciphertext
length-ciphertext key block h =
    length-xor_bytes (shift_rows (sub_bytes (state_after key block 9))) (round_key key 10) (sym (length-round_key key h))

-- and so has the code of a message
pub length-cmac : (key m : List ℕ) → length key ≡ 16 → length (cmac key m) ≡ 16
unfolding cmac
length-cmac key m h = length-ciphertext key _ h
