-- The words that bytes are written as, in hexadecimal digits.
use Rattle.std.proofs.Common.{◌≡◌, ℕ, zero, suc, ◌<◌, ◌^◌, ◌/◌, ◌%◌, List, [], ◌∷◌, length, false, All, Some, ◌==◌, slice_index}
use Rattle.std.proofs.Common.{refl, ap, ◌∙◌, arith, rules}
use Rattle.std.proofs.lemmas.List.Elements.{All-cons, All-nil}
use Rattle.hex.specs.Hex.{IsBytes, encode_lower, encode_with, lower_digits, hex_digit_value}
use Rattle.hex.proofs.HexLemmas.{IsDigits-lower_digits, length-encode_with, decode_of-encode_lower, decode_sized-encode_lower}
use Rattle.std.proofs.lemmas.Nat.{from_be_bytes-to_be_bytes_4}
use Rattle.std.proofs.lemmas.Bool.{ne_eqb}
use Rattle.std.specs.Int.{w32, from_be_bytes, to_be_bytes}
use Rattle.std.specs.Option.{option_map}
use Rattle.text_lines.specs.Words.{is_blank}
use Rattle.run_lines.specs.EntryLine.{addr_digits, hex_digits}
use Rattle.run_lines.specs.RunWords.{addr_word, hex_word, uplink_word, or_none}
use Rattle.server_desk.specs.declared.setting.DeviceSetting.{DeviceSetting}
use Rattle.event_lines.proofs.SpacedLemmas.{IsWord}

-- what a hexadecimal digit is not: a blank, or `@`
no_blank : (c d : ℕ) → hex_digit_value c ≡ Some d → is_blank c ≡ false
no_blank c d digit = grind (arith, rules)

no_at_sign : (c d : ℕ) → hex_digit_value c ≡ Some d → (c == 64) ≡ false
no_at_sign c d digit = grind (arith, rules)

-- two digits for each byte, none of them a blank
digits_no_blank : (bytes : List ℕ) → IsBytes bytes → All (λ c. is_blank c ≡ false) (encode_lower bytes)
unfolding encode_with
digits_no_blank [] are = All-nil (λ c. is_blank c ≡ false)
digits_no_blank (b ∷ bytes) are =
    let fits : b < 256 = are 0 in
    let high : b / 16 < 16 = omega arith in
    let low : b % 16 < 16 = omega arith in
    let first : ℕ = slice_index lower_digits (b / 16) in
    let second : ℕ = slice_index lower_digits (b % 16) in
    All-cons (λ c. is_blank c ≡ false) first (second ∷ encode_lower bytes) (no_blank first (b / 16) (IsDigits-lower_digits (b / 16) high))
    (All-cons (λ c. is_blank c ≡ false) second (encode_lower bytes) (no_blank second (b % 16) (IsDigits-lower_digits (b % 16) low))
    (digits_no_blank bytes (λ k. are (suc k))))

-- bytes, of which there are some, are a word
hex_word_is : (bytes : List ℕ) → 0 < length bytes → IsBytes bytes → IsWord (encode_lower bytes)
hex_word_is bytes some are = (omega (arith, some, length-encode_with lower_digits bytes), digits_no_blank bytes are)

-- a number of 32 bits is four bytes
be_bytes : (n : ℕ) → IsBytes (to_be_bytes w32 n)
be_bytes n zero = omega arith
be_bytes n (suc zero) = omega arith
be_bytes n (suc (suc zero)) = omega arith
be_bytes n (suc (suc (suc zero))) = omega arith
be_bytes n (suc (suc (suc (suc i)))) = omega arith

pub addr_is_word : (addr : ℕ) → IsWord (encode_lower (to_be_bytes w32 addr))
addr_is_word addr = hex_word_is (to_be_bytes w32 addr) (omega arith) (be_bytes addr)

pub addr_back : (addr : ℕ) → addr < 2 ^ 32 → addr_word (addr_digits addr) ≡ Some addr
addr_back addr small =
    ap (λ decoded. option_map (from_be_bytes w32) (or_none decoded))
    (decode_sized-encode_lower (to_be_bytes w32 addr) 4 refl (be_bytes addr))
    ∙ ap Some (from_be_bytes-to_be_bytes_4 addr small)

-- bytes or a dash
pub bytes_word : (bytes : List ℕ) → IsBytes bytes → IsWord (hex_digits bytes)
bytes_word [] are = (omega arith, All-cons (λ c. is_blank c ≡ false) 45 [] refl (All-nil (λ c. is_blank c ≡ false)))
bytes_word (b ∷ bytes) are = hex_word_is (b ∷ bytes) (omega arith) are

-- what they begin with is no `@`
first_digit : (b : ℕ) (bytes : List ℕ) → slice_index (encode_lower (b ∷ bytes)) 0 ≡ slice_index lower_digits (b / 16)
unfolding encode_with
first_digit b bytes = refl

no_at : (b : ℕ) (bytes : List ℕ) → IsBytes (b ∷ bytes) → (slice_index (encode_lower (b ∷ bytes)) 0 == 64) ≡ false
no_at b bytes are =
    let fits : b < 256 = are 0 in
    let high : b / 16 < 16 = omega arith in
    ap (λ c. c == 64) (first_digit b bytes)
    ∙ no_at_sign (slice_index lower_digits (b / 16)) (b / 16) (IsDigits-lower_digits (b / 16) high)

no_dash : (b : ℕ) (bytes : List ℕ) → (length (encode_lower (b ∷ bytes)) == 1) ≡ false
no_dash b bytes = ne_eqb _ 1 (λ one. omega (arith, one, length-encode_with lower_digits (b ∷ bytes)))

pub bytes_back : (devices : List DeviceSetting) (bytes : List ℕ) → IsBytes bytes → uplink_word devices (hex_digits bytes) ≡ Some bytes
bytes_back devices [] are = refl
bytes_back devices (b ∷ bytes) are =
    rw (no_at b bytes are, no_dash b bytes, decode_of-encode_lower (b ∷ bytes) are) refl

pub payload_back : (bytes : List ℕ) → IsBytes bytes → hex_word (hex_digits bytes) ≡ Some bytes
payload_back [] are = refl
payload_back (b ∷ bytes) are = rw (no_dash b bytes, decode_of-encode_lower (b ∷ bytes) are) refl
