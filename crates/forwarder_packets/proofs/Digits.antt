use Rattle.std.proofs.Common.{arith, ℕ, zero, suc, ◌≡◌, ◌+◌, ◌-◌, ◌*◌, ◌^◌, ◌<◌, ◌≤◌, List, [], ◌∷◌, length, take, get_or, true, refl, sym, ap, ◌∙◌}
use Rattle.std.proofs.Math.Nat.{le-mul_of_pos_right, one-le-pow, mul-lt-mul_of_pos_right}
use Rattle.std.proofs.lemmas.Nat.{pow-add}
use Rattle.std.specs.List.{list_all}
use Rattle.std.proofs.lemmas.Bool.{and_parts, and_from, leb-true}
use Rattle.text_lines.specs.Number.{is_digit}

-- a digit is worth at most nine
pub digit_small : (ds : List ℕ) (k : ℕ) → list_all is_digit ds ≡ true → k < length ds → get_or ds k 0 - 48 ≤ 9
digit_small [] k all inside = omega arith
digit_small (d ∷ ds) zero all inside = omega (arith, leb-true d 57 (and_parts _ _ (and_parts _ _ all).0).1)
digit_small (d ∷ ds) (suc k) all inside = digit_small ds k (and_parts _ _ all).1 (omega (arith, inside))

-- the first of digits are digits
pub taken_digits : (n : ℕ) (ds : List ℕ) → list_all is_digit ds ≡ true → list_all is_digit (take n ds) ≡ true
taken_digits zero ds all = refl
taken_digits (suc n) [] all = refl
taken_digits (suc n) (d ∷ ds) all = and_from _ _ (and_parts _ _ all).0 (taken_digits n ds (and_parts _ _ all).1)

-- so many digits and the zeros behind them are worth less than one more digit is
pub shifted_small : (a i p : ℕ) → a < 10 ^ i → i ≤ p → p ≤ 6 → a * 10 ^ (p - i) < 10 ^ 6
shifted_small a i p small le six =
    let one : 0 < 10 ^ (p - i) = omega (arith, one-le-pow (p - i) 10 (omega arith)) in
    let below : a * 10 ^ (p - i) < 10 ^ i * 10 ^ (p - i) = mul-lt-mul_of_pos_right small one in
    let all_places : i + (p - i) ≡ p = omega arith in
    let all_six : p + (6 - p) ≡ 6 = omega arith in
    let whole : 10 ^ i * 10 ^ (p - i) ≡ 10 ^ p = sym (pow-add 10 i (p - i)) ∙ ap (λ n. 10 ^ n) all_places in
    let most : 10 ^ p * 10 ^ (6 - p) ≡ 10 ^ 6 = sym (pow-add 10 p (6 - p)) ∙ ap (λ n. 10 ^ n) all_six in
    let least : 1 ≤ 10 ^ (6 - p) = one-le-pow (6 - p) 10 (omega arith) in
    omega (arith, below, whole, most, le-mul_of_pos_right (10 ^ p) least)

pub small_power : (p : ℕ) → p ≤ 6 → 10 ^ p ≤ 10 ^ 6
small_power p six =
    let all_six : p + (6 - p) ≡ 6 = omega arith in
    let most : 10 ^ p * 10 ^ (6 - p) ≡ 10 ^ 6 = sym (pow-add 10 p (6 - p)) ∙ ap (λ n. 10 ^ n) all_six in
    omega (arith, most, le-mul_of_pos_right (10 ^ p) (one-le-pow (6 - p) 10 (omega arith)))
