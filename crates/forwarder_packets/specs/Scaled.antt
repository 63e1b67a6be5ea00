use Rattle.std.specs.Prelude.{ℕ, ◌+◌, ◌-◌, ◌*◌, ◌^◌, ◌==◌, Bool, true, false, ◌&&◌, ◌||◌, if◌then◌else◌, nat_le, List, [], ◌∷◌, length, take, drop}
use Rattle.std.specs.Prelude.{Option, Some, None, unwrap_or, position, ℤ, pos, neg_ℤ}
use Rattle.std.specs.List.{list_all}
use Rattle.text_lines.specs.Number.{is_digit, is_digits, value_of}

-- Decimal fractions as whole numbers: of a number with a point so many places behind it are taken, by its digits alone.

-- where the point stands, or the end
abbrev pub point_of : List ℕ → ℕ
point_of text = unwrap_or (position (λ c. c == 46) text) (length text)

-- the digits before the point, and behind it
abbrev pub whole_of : List ℕ → List ℕ
whole_of text = take (point_of text) text

abbrev pub fraction_of : List ℕ → List ℕ
fraction_of text = drop (point_of text + 1) text

-- 1 to 10 digits, and where there is a point at least one digit behind it; no exponent
abbrev pub is_plain : List ℕ → Bool
is_plain text = is_digits 10 (whole_of text) && list_all is_digit (fraction_of text)
    && (nat_le 1 (length (fraction_of text)) || (point_of text == length text))

-- the value of so many places behind the point: those that aren't there are 0
abbrev pub places_of : ℕ → List ℕ → ℕ
places_of k digits = value_of (take k digits) * 10 ^ (k - length (take k digits))

-- a number without a sign times 10^k; digits past the k-th behind the point are dropped
abbrev pub unsigned_scaled : ℕ → List ℕ → Option ℕ
unsigned_scaled k text =
    if is_plain text then Some (value_of (whole_of text) * 10 ^ k + places_of k (fraction_of text)) else None

abbrev pub signed : Bool → Option ℕ → Option ℤ
signed negative None = None
signed negative (Some n) = Some (if negative then neg_ℤ (pos n) else pos n)

-- with `-` before it or not
abbrev pub scaled : ℕ → List ℕ → Option ℤ
scaled k [] = None
scaled k (c ∷ text) = if c == 45 then signed true (unsigned_scaled k text) else signed false (unsigned_scaled k (c ∷ text))
