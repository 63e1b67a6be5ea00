-- Lemmas on what a line says, and on the lines of output.
use Rattle.std.proofs.Common.{◌≡◌, ℕ, ◌<◌, ◌≤◌, false, nat_eq, List, [], ◌∷◌, length, map, get_or, None, refl}
use Rattle.std.proofs.Common.{arith}
use Rattle.std.proofs.lemmas.Bool.Decides.{nat_tests}
use Rattle.std.specs.Char.{digit_value}
use Rattle.std.specs.Str.Parse.{IsNumeral}
use Rattle.book_texts.specs.Said.{book_command, earliest_command}
use Rattle.text_words.specs.Words.{is_refusal}

-- a booking has no more than five words after its name
pub book_command-more : {X : Type 0} (f : X → List ℕ) (words : List X) → 5 < length words → book_command (map f words) ≡ None
book_command-more f [] h = absurd (omega arith)
book_command-more f (a ∷ []) h = absurd (omega arith)
book_command-more f (a ∷ b ∷ []) h = absurd (omega arith)
book_command-more f (a ∷ b ∷ c ∷ []) h = absurd (omega arith)
book_command-more f (a ∷ b ∷ c ∷ d ∷ []) h = absurd (omega arith)
book_command-more f (a ∷ b ∷ c ∷ d ∷ e ∷ []) h = absurd (omega arith)
book_command-more f (a ∷ b ∷ c ∷ d ∷ e ∷ g ∷ more) h = refl

-- a question for the earliest start has no fewer than six words after its name
pub earliest_command-fewer : {X : Type 0} (f : X → List ℕ) (words : List X) → length words < 6
    → earliest_command (map f words) ≡ None
earliest_command-fewer f [] h = refl
earliest_command-fewer f (a ∷ []) h = refl
earliest_command-fewer f (a ∷ b ∷ []) h = refl
earliest_command-fewer f (a ∷ b ∷ c ∷ []) h = refl
earliest_command-fewer f (a ∷ b ∷ c ∷ d ∷ []) h = refl
earliest_command-fewer f (a ∷ b ∷ c ∷ d ∷ e ∷ []) h = refl
earliest_command-fewer f (a ∷ b ∷ c ∷ d ∷ e ∷ g ∷ more) h = absurd (omega arith)

-- and no more
pub earliest_command-more : {X : Type 0} (f : X → List ℕ) (words : List X) → 6 < length words
    → earliest_command (map f words) ≡ None
earliest_command-more f [] h = absurd (omega arith)
earliest_command-more f (a ∷ []) h = absurd (omega arith)
earliest_command-more f (a ∷ b ∷ []) h = absurd (omega arith)
earliest_command-more f (a ∷ b ∷ c ∷ []) h = absurd (omega arith)
earliest_command-more f (a ∷ b ∷ c ∷ d ∷ []) h = absurd (omega arith)
earliest_command-more f (a ∷ b ∷ c ∷ d ∷ e ∷ []) h = absurd (omega arith)
earliest_command-more f (a ∷ b ∷ c ∷ d ∷ e ∷ g ∷ []) h = absurd (omega arith)
earliest_command-more f (a ∷ b ∷ c ∷ d ∷ e ∷ g ∷ i ∷ more) h = refl

-- a line that begins with a digit begins with neither `no` nor `bad`
pub is_refusal-digit : (line : List ℕ) → 0 < length line → 48 ≤ get_or line 0 0 → get_or line 0 0 ≤ 57 → is_refusal line ≡ false
is_refusal-digit [] some low high = absurd (omega arith)
is_refusal-digit (digit ∷ more) some low high =
    let a : nat_eq digit 110 ≡ false = grind (arith, nat_tests) in
    let b : nat_eq digit 98 ≡ false = grind (arith, nat_tests) in
    let c : nat_eq 110 digit ≡ false = grind (arith, nat_tests) in
    let d : nat_eq 98 digit ≡ false = grind (arith, nat_tests) in
    grind (arith, nat_tests)

below_ten : (c : ℕ) → digit_value c < 10 → (48 ≤ c) × (c ≤ 57)
below_ten c h = (grind (arith, nat_tests), grind (arith, nat_tests))

-- nor does a number
pub is_refusal-numeral : (line : List ℕ) → IsNumeral 10 line → is_refusal line ≡ false
is_refusal-numeral [] h = absurd (omega (arith, h.0))
is_refusal-numeral (c ∷ cs) h =
    let k = below_ten c h.1.0 in is_refusal-digit (c ∷ cs) h.0 k.0 k.1
