use Rattle.std.proofs.Common.{◌≡◌, ℕ, suc, ◌+◌, ◌*◌, ◌/◌, ◌%◌, ◌<◌, ◌≤◌, Bool, true, false, List, [], ◌∷◌, length, ◌⊎◌}
use Rattle.std.proofs.Common.{Option, Some, None, slice_index, refl, sym, ap, ◌∙◌, arith, rules, ltb}
use Rattle.std.specs.Prelude.{Result, Ok, Err, if◌then◌else◌}
use Rattle.std.proofs.lemmas.Bool.{and_parts, and_from}
use Rattle.std.proofs.lemmas.Option.{same_Some}
use Rattle.std.proofs.lemmas.List.Sums.{AllPass-from_list_all}
use Rattle.std.specs.List.{list_all}
use Rattle.hex.specs.declared.error.FromHexError.{FromHexError}
use Rattle.hex.specs.Hex.{IsBytes, encode_lower, encode_with, lower_digits, hex_digit_value, digit_or_error, value_at, pair_value}
use Rattle.hex.specs.Hex.{decode_pairs, decode_of, decode_sized, ◌>>=◌}
use Rattle.hex.proofs.HexLemmas.{IsDigits-lower_digits, decode_of-ok, decode_of-even, decode_sized-twice}
use Rattle.hex.proofs.HexLemmas.{decode_sized-ok, decode_sized-encode_lower}
use Rattle.gateway_book.proofs.SavedNumbers.{is_ink}
use Rattle.serve_journal.specs.EntryWords.{is_lower_digit, found, hex_sized}

-- Bytes and their digits in lower case.

-- what a digit in lower case is worth
worth : (c v : ℕ) → is_lower_digit c ≡ true → hex_digit_value c ≡ Some v
    → ((v < 10) × (c ≡ v + 48)) ⊎ ((10 ≤ v) × (c ≡ v + 87))
unfolding is_lower_digit
worth c v lower is = grind (arith, rules)

-- two that are worth the same are one
one_digit : (c d v : ℕ) → is_lower_digit c ≡ true → is_lower_digit d ≡ true → hex_digit_value c ≡ Some v
    → hex_digit_value d ≡ Some v → c ≡ d
one_digit c d v low also is too = omega (arith, worth c v low is, worth d v also too)

-- each value has one
table_digit : (v : ℕ) → v < 16 → is_lower_digit (slice_index lower_digits v) ≡ true
unfolding is_lower_digit
table_digit v small = AllPass-from_list_all is_lower_digit lower_digits refl v 0 small

digit_is : (c v : ℕ) → v < 16 → is_lower_digit c ≡ true → hex_digit_value c ≡ Some v → slice_index lower_digits v ≡ c
digit_is c v small low is =
    one_digit (slice_index lower_digits v) c v (table_digit v small) low (IsDigits-lower_digits v small) is

-- what an `Ok` behind `>>=` shows
bind_ok : {A B : Type 0} (r : Result A FromHexError) (f : A → Result B FromHexError) (y : B) → (r >>= f) ≡ Ok y
    → (x : A) × (r ≡ Ok x) × (f x ≡ Ok y)
bind_ok (Ok x) f y h = (x, refl, h)
bind_ok (Err e) f y h = absurd (cc)

digit_read : (c i : ℕ) (o : Option ℕ) (v : ℕ) → digit_or_error c i o ≡ Ok v → o ≡ Some v
digit_read c i (Some w) v h = cc
digit_read c i None v h = absurd (cc)

small_value : (c v : ℕ) → hex_digit_value c ≡ Some v → v < 16
small_value c v h = grind (arith)

same_bytes : (xs ys : List ℕ) → (let a : Result (List ℕ) FromHexError = Ok xs in a) ≡ Ok ys → xs ≡ ys
same_bytes xs ys h = cc

same_byte : (x y : ℕ) → (let a : Result ℕ FromHexError = Ok x in a) ≡ Ok y → x ≡ y
same_byte x y h = cc

-- digits in lower case are what is written of their bytes
spelled : (i : ℕ) (s bytes : List ℕ) → list_all is_lower_digit s ≡ true → decode_pairs i s ≡ Ok bytes → s ≡ encode_lower bytes
unfolding decode_pairs encode_with
spelled i [] bytes low h = ap encode_lower (same_bytes [] bytes h)
spelled i (a ∷ []) bytes low h = absurd (cc)
spelled i (a ∷ b ∷ rest) bytes low h =
    let first = and_parts (is_lower_digit a) (list_all is_lower_digit (b ∷ rest)) low in
    let second = and_parts (is_lower_digit b) (list_all is_lower_digit rest) first.1 in
    let p0 = bind_ok (pair_value a b i) _ bytes h in
    let p1 = bind_ok (value_at a i) _ p0.0 p0.1 in
    let p2 = bind_ok (value_at b (i + 1)) _ p0.0 p1.2 in
    let p3 = bind_ok (decode_pairs (i + 2) rest) _ bytes p0.2 in
    let high = digit_read a i (hex_digit_value a) p1.0 p1.1 in
    let less = digit_read b (i + 1) (hex_digit_value b) p2.0 p2.1 in
    let u : p1.0 < 16 = small_value a p1.0 high in
    let v : p2.0 < 16 = small_value b p2.0 less in
    let byte : p1.0 * 16 + p2.0 ≡ p0.0 = same_byte (p1.0 * 16 + p2.0) p0.0 p2.2 in
    let top : p0.0 / 16 ≡ p1.0 = omega (arith, byte, u, v) in
    let low_half : p0.0 % 16 ≡ p2.0 = omega (arith, byte, u, v) in
    let whole : p0.0 ∷ p3.0 ≡ bytes = same_bytes (p0.0 ∷ p3.0) bytes p3.2 in
    let x : slice_index lower_digits (p0.0 / 16) ≡ a = ap (slice_index lower_digits) top ∙ digit_is a p1.0 u first.0 high in
    let y : slice_index lower_digits (p0.0 % 16) ≡ b = ap (slice_index lower_digits) low_half ∙ digit_is b p2.0 v second.0 less in
    let tail : rest ≡ encode_lower p3.0 = spelled (i + 2) rest p3.0 second.1 p3.1 in
    let all : a ∷ b ∷ rest ≡ encode_lower (p0.0 ∷ p3.0) = cc (sym x, sym y, tail) in
    all ∙ ap encode_lower whole

-- a word that is read as so many bytes
pub record IsHex (count : ℕ) (word bytes : List ℕ) : Type 0 where
  pub written : word ≡ encode_lower bytes
  pub sized : length bytes ≡ count
  pub small : IsBytes bytes

hex_by : (count : ℕ) (word bytes : List ℕ) (t : Bool) → list_all is_lower_digit word ≡ t
    → (if t then found (decode_sized word count) else None) ≡ Some bytes → IsHex count word bytes
hex_by count word bytes true low h = from_ok (decode_sized word count) refl h
  where
    from_ok : (r : Result (List ℕ) FromHexError) → decode_sized word count ≡ r → found r ≡ Some bytes → IsHex count word bytes
    from_ok (Ok xs) e f =
        let same : xs ≡ bytes = same_Some xs bytes f in
        let read : decode_sized word count ≡ Ok bytes = e ∙ ap Ok same in
        let len : length word ≡ 2 * count = decode_sized-ok word count bytes read in
        let even : length word % 2 ≡ 0 = omega arith in
        let decoded : decode_of word ≡ Ok bytes = sym (decode_sized-twice word count len) ∙ read in
        let ok = decode_of-ok word bytes decoded in
        record {
          written = spelled 0 word bytes low (sym (decode_of-even word even) ∙ decoded);
          sized = omega (arith, len, ok.2);
          small = ok.3;
        }
    from_ok (Err fault) e f = absurd (cc)
hex_by count word bytes false low h = absurd (cc)

pub hex_is : (count : ℕ) (word bytes : List ℕ) → hex_sized count word ≡ Some bytes → IsHex count word bytes
hex_is count word bytes h = hex_by count word bytes (list_all is_lower_digit word) refl h

-- what is written of bytes is such digits
all_lower : (bytes : List ℕ) → IsBytes bytes → list_all is_lower_digit (encode_lower bytes) ≡ true
unfolding encode_with
all_lower [] are = refl
all_lower (b ∷ bytes) are =
    let fits : b < 256 = are 0 in
    let high : b / 16 < 16 = omega arith in
    let low : b % 16 < 16 = omega arith in
    and_from _ _ (table_digit (b / 16) high) (and_from _ _ (table_digit (b % 16) low) (all_lower bytes (λ k. are (suc k))))

-- and is read back
pub hex_back : (count : ℕ) (bytes : List ℕ) → length bytes ≡ count → IsBytes bytes → hex_sized count (encode_lower bytes) ≡ Some bytes
hex_back count bytes sized are = rw (all_lower bytes are, decode_sized-encode_lower bytes count sized are) refl

ink_digit : (c : ℕ) → is_lower_digit c ≡ true → ltb 32 c ≡ true
unfolding is_lower_digit
ink_digit c low = grind (arith, rules)

ink_digits : (word : List ℕ) → list_all is_lower_digit word ≡ true → is_ink word ≡ true
ink_digits [] low = refl
ink_digits (c ∷ word) low =
    let parts = and_parts (is_lower_digit c) (list_all is_lower_digit word) low in
    and_from _ _ (ink_digit c parts.0) (ink_digits word parts.1)

-- it neither parts words nor ends lines
pub is_ink-hex : (bytes : List ℕ) → IsBytes bytes → is_ink (encode_lower bytes) ≡ true
is_ink-hex bytes are = ink_digits (encode_lower bytes) (all_lower bytes are)
