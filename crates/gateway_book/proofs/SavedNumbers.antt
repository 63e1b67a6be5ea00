use Rattle.std.proofs.Common.{◌≡◌, ◌≢◌, ℕ, ◌^◌, ◌<◌, ◌≤◌, Bool, true, false, cond, ◌&&◌, ltb, eqb, List, [], ◌∷◌, ◌++◌, length}
use Rattle.std.proofs.Common.{get_or, None, Some, refl, ap, ◌∙◌, arith, decimal, ⊎_elim, suc}
use Rattle.std.proofs.lemmas.Bool.{ne_eqb, and_parts, and_right, leb-true, lt-ltb, ltb-true, cases_lt}
use Rattle.std.proofs.lemmas.Fmt.{decimal_digit, first_decimal}
use Rattle.std.proofs.lemmas.List.Splits.{slice_split_none, slice_split_at}
use Rattle.std.proofs.lemmas.List.Sums.{list_all-from_AllPass, AllPass-from_list_all}
use Rattle.std.proofs.lemmas.List.Elements.{All-cons}
use Rattle.std.specs.List.{list_all, All}
use Rattle.text_lines.specs.Line.{HasNoLineFeed}
use Rattle.text_lines.specs.Number.{is_digit, value_of, number_below}
use Rattle.text_lines.specs.Words.{spaced}
use Rattle.text_lines.proofs.NumberLemmas.{decimal_is_digits, value_of-decimal, in_bound}
use Rattle.gateway_book.specs.Loading.{leads_zero, plain_number, words_between}

-- The numbers and the words of a saved text.

one_digit : (number : ℕ) → number < 10 → leads_zero (decimal number) ≡ false
one_digit number small = ap leads_zero (decimal_digit number small)

more_digits : (number : ℕ) → 0 < number → number < 2 ^ 64 → leads_zero (decimal number) ≡ false
more_digits number some small =
    let first : eqb (get_or (decimal number) 0 0) 48 ≡ false =
    ne_eqb _ _ (λ e. omega (arith, e, first_decimal number some small)) in
    ap (λ t. ltb 1 (length (decimal number)) && t) first ∙ and_right (ltb 1 (length (decimal number))) false refl

-- no zero leads what is written of a number
pub leads_zero-decimal : (number : ℕ) → number < 2 ^ 64 → leads_zero (decimal number) ≡ false
leads_zero-decimal number small = ⊎_elim
    (λ some. more_digits number some small)
    (λ none. one_digit number (omega arith))
    (cases_lt 0 number)

-- what is written of a number is read back, below any bound of at most 64 bits
pub plain-decimal : (bound number : ℕ) → number < bound → bound ≤ 2 ^ 64 → plain_number bound (decimal number) ≡ Some number
plain-decimal bound number small fits =
    let value : value_of (decimal number) ≡ number = value_of-decimal number (omega arith) in
    ap (λ t. cond t None (number_below bound (decimal number))) (leads_zero-decimal number (omega arith))
    ∙ in_bound bound (decimal number) (decimal_is_digits number (omega arith)) (omega (arith, value)) ∙ ap Some value

-- bytes that neither part words nor end lines
abbrev pub is_ink : List ℕ → Bool
is_ink word = list_all (λ byte. ltb 32 byte) word

-- what is written of a number is such
pub is_ink-decimal : (number : ℕ) → number < 2 ^ 64 → is_ink (decimal number) ≡ true
is_ink-decimal number small =
    let digits : list_all is_digit (decimal number) ≡ true =
    (and_parts _ _ (decimal_is_digits number small)).1 in
    list_all-from_AllPass (λ byte. ltb 32 byte) (decimal number)
    (λ k d h.
    let digit : is_digit (get_or (decimal number) k d) ≡ true = AllPass-from_list_all is_digit (decimal number) digits k d h in
    lt-ltb 32 (get_or (decimal number) k d)
    (omega (arith, leb-true 48 (get_or (decimal number) k d) (and_parts _ _ digit).0)))

no_space : (word : List ℕ) → is_ink word ≡ true → All (λ byte. eqb byte 32 ≡ false) word
no_space word ink = λ k d h.
    ne_eqb _ _ (λ e. omega (arith, e, ltb-true 32 (get_or word k d) (AllPass-from_list_all (λ b. ltb 32 b) word ink k d h)))

-- the words of a line of such words
pub words_between-spaced : (word : List ℕ) (words : List (List ℕ)) → list_all is_ink (word ∷ words) ≡ true
    → words_between (spaced (word ∷ words)) ≡ word ∷ words
words_between-spaced word [] ink =
    slice_split_none (λ b. eqb b 32) word (no_space word (and_parts (is_ink word) true ink).0)
words_between-spaced word (next ∷ words) ink =
    let parts = and_parts (is_ink word) (list_all is_ink (next ∷ words)) ink in
    slice_split_at (λ b. eqb b 32) word 32 (spaced (next ∷ words)) (no_space word parts.0) refl
    ∙ ap (λ l. word ∷ l) (words_between-spaced next words parts.1)

All-append : (P : ℕ → Type 0) (xs ys : List ℕ) → All P xs → All P ys → All P (xs ++ ys)
All-append P [] ys p q = q
All-append P (x ∷ xs) ys p q =
    All-cons P x (xs ++ ys) (p 0 0 (omega arith)) (All-append P xs ys (λ k d h. p (suc k) d (omega arith)) q)

no_feed : (word : List ℕ) → is_ink word ≡ true → HasNoLineFeed word
no_feed word ink = λ k d h e.
    omega (arith, e, ltb-true 32 (get_or word k d) (AllPass-from_list_all (λ b. ltb 32 b) word ink k d h))

-- such a line has no line feed
pub unbroken-spaced : (word : List ℕ) (words : List (List ℕ)) → list_all is_ink (word ∷ words) ≡ true
    → HasNoLineFeed (spaced (word ∷ words))
unbroken-spaced word [] ink = no_feed word (and_parts (is_ink word) true ink).0
unbroken-spaced word (next ∷ words) ink =
    let parts = and_parts (is_ink word) (list_all is_ink (next ∷ words)) ink in
    All-append (λ b. b ≢ 10) word (32 ∷ spaced (next ∷ words)) (no_feed word parts.0)
    (All-cons (λ b. b ≢ 10) 32 (spaced (next ∷ words)) (λ e. omega (arith, e)) (unbroken-spaced next words parts.1))
