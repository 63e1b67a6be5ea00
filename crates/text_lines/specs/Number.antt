-- The numbers that words are.
use Rattle.std.specs.Prelude.{◌≡◌, ℕ, ◌+◌, ◌-◌, ◌*◌, ◌^◌, Bool, ◌==◌, ◌&&◌, ◌<◌, List, [], ◌∷◌, length, nat_lt, nat_le, Option}
use Rattle.std.specs.Prelude.{None, Some, if◌then◌else◌, ℤ, pos, neg_ℤ, decimal}
use Rattle.std.specs.List.{list_all}

-- the byte is one of `0` to `9`
abbrev pub is_digit : ℕ → Bool
is_digit byte = nat_le 48 byte && nat_le byte 57

-- the value of decimal digits: each times the weight of its place
abbrev pub value_of : List ℕ → ℕ
value_of [] = 0
value_of (digit ∷ digits) = (digit - 48) * 10 ^ length digits + value_of digits

-- digits alone, at least one and at most `most`; zeros may lead
abbrev pub is_digits : ℕ → List ℕ → Bool
is_digits most word = nat_le 1 (length word) && nat_le (length word) most && list_all is_digit word

-- the number below `bound` that a word of 1 to 20 digits is, if it is one
abbrev pub number_below : ℕ → List ℕ → Option ℕ
number_below bound word = if is_digits 20 word && nat_lt (value_of word) bound then Some (value_of word) else None

-- the number from -32,768 to 32,767 that a word of 1 to 5 digits is, with `-` before them or not
abbrev pub number_signed : List ℕ → Option ℤ
number_signed [] = None
number_signed (first ∷ digits) =
    if first == 45 then (if is_digits 5 digits && nat_le (value_of digits) 32768 then Some
    (neg_ℤ (pos (value_of digits))) else None)
    else (if is_digits 5 (first ∷ digits) && nat_lt (value_of (first ∷ digits)) 32768 then Some
    (pos (value_of (first ∷ digits))) else None)

-- every number of 64 bits is read back from its decimal text
abbrev pub NumbersReadBack : Type 0
NumbersReadBack = (number : ℕ) → number < 2 ^ 64 → number_below (2 ^ 64) (decimal number) ≡ Some number
