-- The words that numbers and bytes are written as.
use Rattle.std.proofs.Common.{◌≡◌, ℕ, zero, suc, ◌<◌, ◌≤◌, ◌^◌, List, [], ◌∷◌, length, false, true, cond, ◌==◌, All, Some, None, ℤ}
use Rattle.std.proofs.Common.{refl, ap, ◌∙◌, arith, rules, decimal}
use Rattle.std.proofs.lemmas.Bool.{and_parts, and_from, lt-ltb, le-leb}
use Rattle.std.proofs.lemmas.Fmt.{decimal_nonempty, length-decimal-le}
use Rattle.std.proofs.lemmas.List.Elements.{All-cons}
use Rattle.std.specs.Prelude.{pos, negsuc, neg_ℤ, if◌then◌else◌, nat_le, nat_lt, ◌&&◌}
use Rattle.std.specs.Fmt.{signed_decimal}
use Rattle.std.specs.List.{list_all}
use Rattle.text_lines.specs.Words.{is_blank}
use Rattle.text_lines.specs.Number.{is_digit, is_digits, value_of, number_below, number_signed}
use Rattle.text_lines.proofs.NumberLemmas.{decimal_is_digits, value_of-decimal, in_bound}
use Rattle.event_lines.specs.Laws.{IsSigned}
use Rattle.event_lines.proofs.SpacedLemmas.{IsWord}

-- a digit is no blank
digit_no_blank : (byte : ℕ) → is_digit byte ≡ true → is_blank byte ≡ false
digit_no_blank byte digit = grind (arith, rules)

no_minus : (byte : ℕ) → is_digit byte ≡ true → (byte == 45) ≡ false
no_minus byte digit = grind (arith, rules)

digits_no_blank : (word : List ℕ) → list_all is_digit word ≡ true → All (λ byte. is_blank byte ≡ false) word
digits_no_blank [] digits k d inside = absurd (omega arith)
digits_no_blank (byte ∷ word) digits zero d inside = digit_no_blank byte (and_parts _ _ digits).0
digits_no_blank (byte ∷ word) digits (suc k) d inside = digits_no_blank word (and_parts _ _ digits).1 k d (omega arith)

-- a number is a word, and is read back in its type
pub decimal_word : (n : ℕ) → n < 2 ^ 64 → IsWord (decimal n)
decimal_word n small =
    (omega (arith, decimal_nonempty n small), digits_no_blank (decimal n) (and_parts _ _ (decimal_is_digits n small)).1)

pub decimal_back : (bound n : ℕ) → n < bound → n < 2 ^ 64 → number_below bound (decimal n) ≡ Some n
decimal_back bound n within small =
    in_bound bound (decimal n) (decimal_is_digits n small) (omega (arith, value_of-decimal n small, within))
    ∙ ap Some (value_of-decimal n small)

-- a number of 16 bits with a sign
signed_digits : (word : List ℕ) → is_digits 5 word ≡ true → value_of word < 32768 → number_signed word ≡ Some (pos (value_of word))
signed_digits [] digits small = grind (arith, rules)
signed_digits (first ∷ word) digits small =
    ap (λ b. cond b (if is_digits 5 word && nat_le (value_of word) 32768 then Some (neg_ℤ (pos (value_of word))) else None)
    (if is_digits 5 (first ∷ word) && nat_lt (value_of (first ∷ word)) 32768 then Some (pos (value_of (first ∷ word))) else None))
    (no_minus first (and_parts _ _ (and_parts _ _ digits).1).0)
    ∙ ap (λ b. cond b (Some (pos (value_of (first ∷ word)))) None) (and_from _ _ digits (lt-ltb (value_of (first ∷ word)) 32768 small))

five_digits : (n : ℕ) → n ≤ 32768 → is_digits 5 (decimal n) ≡ true
five_digits n small =
    let digits : is_digits 20 (decimal n) ≡ true = decimal_is_digits n (omega arith) in
    and_from _ _ (and_from _ _ (and_parts _ _ (and_parts _ _ digits).0).0
    (le-leb (length (decimal n)) 5 (length-decimal-le 5 n (omega arith) (omega arith) (omega arith)))) (and_parts _ _ digits).1

pub signed_back : (z : ℤ) → IsSigned z → number_signed (signed_decimal z) ≡ Some z
signed_back (pos n) small =
    let value : value_of (decimal n) ≡ n = value_of-decimal n (omega arith) in
    signed_digits (decimal n) (five_digits n (omega arith)) (omega (arith, value)) ∙ ap (λ m. Some (pos m)) value
signed_back (negsuc n) small =
    let value : value_of (decimal (suc n)) ≡ suc n = value_of-decimal (suc n) (omega arith) in
    ap (λ b. cond b (Some (neg_ℤ (pos (value_of (decimal (suc n)))))) None)
    (and_from _ _ (five_digits (suc n) (omega arith)) (le-leb (value_of (decimal (suc n))) 32768 (omega (arith, value))))
    ∙ ap (λ m. Some (neg_ℤ (pos m))) value

pub signed_word : (z : ℤ) → IsSigned z → IsWord (signed_decimal z)
signed_word (pos n) small = decimal_word n (omega arith)
signed_word (negsuc n) small =
    let word : IsWord (decimal (suc n)) = decimal_word (suc n) (omega arith) in
    (omega arith, All-cons (λ byte. is_blank byte ≡ false) _ _ refl word.1)
