-- Lemmas on the numbers that words are.
use Rattle.std.proofs.Common.{◌≡◌, ℕ, suc, ◌+◌, ◌-◌, ◌*◌, ◌^◌, ◌<◌, List, length, drop, get_or, true, cond, ◌&&◌, ltb, None}
use Rattle.std.proofs.Common.{Some, ap, subst, ◌∙◌, ⊎_elim, arith, rules, decimal}
use Rattle.std.proofs.Math.Nat.{le-mul_of_pos_right, one-le-pow, pow-succ'}
use Rattle.std.proofs.Math.Seq.{drop-cons, drop-length}
use Rattle.std.proofs.lemmas.Bool.{and_parts, and_from, leb-true, le-leb, lt-ltb, ltb-true, cases_Bool}
use Rattle.std.proofs.lemmas.Fmt.{digits_decimal, digits_value-decimal, decimal_nonempty, length-decimal-le, decimal-digits_value}
use Rattle.std.proofs.lemmas.Str.Parse.{IsNumeralModel, numerals_by_weight}
use Rattle.std.specs.List.{list_all}
use Rattle.text_lines.specs.Number.{is_digit, is_digits, value_of, number_below, NumbersReadBack}

-- digits alone, told one by one, and their value, are what a numeral is
own : IsNumeralModel (λ ds. list_all is_digit ds ≡ true) value_of
own = numerals_by_weight _ (search rules) value_of (search rules)

digits_alone : (most : ℕ) (word : List ℕ) → is_digits most word ≡ true → list_all is_digit word ≡ true
digits_alone most word digits = (and_parts _ _ digits).1

some_digit : (most : ℕ) (word : List ℕ) → is_digits most word ≡ true → 0 < length word
some_digit most word digits = omega (arith, leb-true 1 (length word) (and_parts _ _ (and_parts _ _ digits).0).0)

-- digits with a small value are that number
pub in_bound : (bound : ℕ) (word : List ℕ) → is_digits 20 word ≡ true → value_of word < bound
    → number_below bound word ≡ Some (value_of word)
in_bound bound word digits small = ap (λ b. cond b (Some (value_of word)) None)
    (and_from _ _ digits (lt-ltb (value_of word) bound small))

past_bound : (bound : ℕ) (word : List ℕ) → (value_of word < bound → ⊥) → number_below bound word ≡ None
past_bound bound word large = ⊎_elim
    (λ yes. absurd (large (ltb-true (value_of word) bound (and_parts _ _ yes).1)))
    (λ no. ap (λ b. cond b (Some (value_of word)) None) no)
    (cases_Bool (is_digits 20 word && ltb (value_of word) bound))

-- `value` is what the first k digits are, so far as the places of the others allow to tell
abbrev pub IsFront : List ℕ → ℕ → ℕ → Type 0
IsFront word k value = value * 10 ^ length (drop k word) + value_of (drop k word) ≡ value_of word

-- one digit more
digit_behind : (word : List ℕ) (k value : ℕ) → k < length word → IsFront word k value
    → IsFront word (suc k) (value * 10 + (get_or word k 0 - 48))
digit_behind word k value inside so_far =
    let rest : List ℕ = drop (suc k) word in
    let is_rest : List ℕ → Type 0 = λ l. value * 10 ^ length l + value_of l ≡ value_of word in
    let split : value * 10 ^ suc (length rest) + ((get_or word k 0 - 48) * 10 ^ length rest + value_of rest) ≡ value_of word =
    subst is_rest (drop-cons word k 0 inside) so_far in
    omega (arith, split, ap (λ x. value * x) (pow-succ' 10 (length rest)))

pub digit_more : (word : List ℕ) (k value : ℕ) → k < length word → IsFront word k value
    → IsFront word (k + 1) (value * 10 + (get_or word k 0 - 48))
digit_more word k value inside so_far =
    let next : suc k ≡ k + 1 = omega arith in
    subst (λ j. IsFront word j (value * 10 + (get_or word k 0 - 48))) next (digit_behind word k value inside so_far)

-- so where the next digit makes the value too large, the word's is
pub front_too_large : (bound : ℕ) (word : List ℕ) (k value : ℕ) → k < length word → IsFront word k value
    → (value * 10 + (get_or word k 0 - 48) < bound → ⊥) → number_below bound word ≡ None
front_too_large bound word k value inside so_far large =
    let front : ℕ = value * 10 + (get_or word k 0 - 48) in
    let places : ℕ = length (drop (k + 1) word) in
    let whole : front * 10 ^ places + value_of (drop (k + 1) word) ≡ value_of word = digit_more word k value inside so_far in
    past_bound bound word (λ small. large
    (omega (arith, small, whole, le-mul_of_pos_right front (one-le-pow places 10 (omega arith)))))

-- and with all digits it is the word's
pub all_digits : (word : List ℕ) (k value : ℕ) → k ≡ length word → IsFront word k value → value ≡ value_of word
all_digits word k value ended so_far =
    let is_rest : List ℕ → Type 0 = λ l. value * 10 ^ length l + value_of l ≡ value_of word in
    let none : value * 1 + 0 ≡ value_of word =
    subst is_rest (ap (λ j. drop j word) ended ∙ drop-length word) so_far in
    omega (arith, none)

-- what is written of a number is digits, whose value it is
pub decimal_is_digits : (number : ℕ) → number < 2 ^ 64 → is_digits 20 (decimal number) ≡ true
decimal_is_digits number small =
    and_from _ _ (and_from _ _ (le-leb 1 (length (decimal number)) (omega (arith, decimal_nonempty number small)))
    (le-leb (length (decimal number)) 20 (length-decimal-le 20 number (omega arith) (omega arith) small)))
    (digits_decimal own number small)

pub value_of-decimal : (number : ℕ) → number < 2 ^ 64 → value_of (decimal number) ≡ number
value_of-decimal number small = digits_value-decimal own number small

-- digits that no zero leads are what is written of their value
pub decimal-value_of : (word : List ℕ) → is_digits 20 word ≡ true → (get_or word 0 0 ≡ 48 → length word ≡ 1)
    → value_of word < 2 ^ 64 → decimal (value_of word) ≡ word
decimal-value_of word digits leads small =
    decimal-digits_value own word (digits_alone 20 word digits) (some_digit 20 word digits) leads small

-- what is written is read back
pub read_back : NumbersReadBack
read_back number small =
    let value : value_of (decimal number) ≡ number = value_of-decimal number small in
    in_bound (2 ^ 64) (decimal number) (decimal_is_digits number small) (omega arith) ∙ ap Some value
