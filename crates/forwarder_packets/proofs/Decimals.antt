-- What is written of a number, as a reader of packets and of JSON takes it.
use Rattle.std.proofs.Common.{◌≡◌, ℕ, zero, suc, pos, ◌+◌, ◌*◌, ◌/◌, ◌%◌, ◌^◌, ◌<◌, ◌≤◌, true, false, cond, not, ◌&&◌, ◌||◌, ◌==◌, nat_lt, nat_le, List, [], ◌∷◌, ◌++◌, length, take, drop, get_or, Some, None, unwrap_or, decimal, refl, sym, ap, ◌∙◌, subst, arith, rules, append-nil, append_assoc, length-append}
use Rattle.std.specs.List.{list_all, position_or_len}
use Rattle.std.proofs.lemmas.Bool.{and_parts, and_from, leb-true, le-leb, lt-ltb, le-ltb, ne_eqb, eq-eqb}
use Rattle.std.proofs.lemmas.List.{drop_at, drop_all, take_at}
use Rattle.std.proofs.Math.Seq.{take-length}
use Rattle.std.proofs.lemmas.Fmt.{decimal_nonempty, length-decimal-le, first_decimal, decimal_digit, decimal_is_IsNumeral}
use Rattle.std.proofs.lemmas.Str.Parse.{IsNumeralModel, numerals_by_weight}
use Rattle.json.specs.Print.{IsNumber}
use Rattle.json.proofs.Printed.Floats.{IsNumber-plain}
use Rattle.text_lines.specs.Number.{is_digit, is_digits, value_of}
use Rattle.text_lines.proofs.NumberLemmas.{decimal_is_digits, value_of-decimal}
use Rattle.forwarder_packets.specs.Scaled.{point_of, whole_of, fraction_of, places_of, unsigned_scaled, signed, scaled}
use Rattle.forwarder_packets.specs.Entry.{is_zero_digit, whole_below, frequency_of}
use Rattle.forwarder_packets.specs.PullResp.{digit_at, six_digits, megahertz}

own : IsNumeralModel (λ ds. list_all is_digit ds ≡ true) value_of
own = numerals_by_weight _ (search rules) value_of (search rules)

-- ---- the point

first_digit : (d : ℕ) (ds : List ℕ) → list_all is_digit (d ∷ ds) ≡ true → 48 ≤ d
first_digit d ds all = leb-true 48 d (and_parts _ _ (and_parts _ _ all).0).0

found_point : (ds r : List ℕ) → list_all is_digit ds ≡ true → position_or_len (λ c. c == 46) (ds ++ 46 ∷ r) ≡ length ds
found_point [] r all = refl
found_point (d ∷ ds) r all =
    ap (λ b. cond (not b) (1 + position_or_len (λ c. c == 46) (ds ++ 46 ∷ r)) 0) (ne_eqb d 46 (λ e. omega (arith, first_digit d ds all)))
    ∙ omega (arith, found_point ds r (and_parts _ _ all).1)

no_point : (ds : List ℕ) → list_all is_digit ds ≡ true → position_or_len (λ c. c == 46) ds ≡ length ds
no_point [] all = refl
no_point (d ∷ ds) all =
    ap (λ b. cond (not b) (1 + position_or_len (λ c. c == 46) ds) 0) (ne_eqb d 46 (λ e. omega (arith, first_digit d ds all)))
    ∙ omega (arith, no_point ds (and_parts _ _ all).1)

point_behind : (ds r : List ℕ) → list_all is_digit ds ≡ true → point_of (ds ++ 46 ∷ r) ≡ length ds
point_behind ds r all =
    let size = length (ds ++ 46 ∷ r) in
    ap (λ n. unwrap_or (cond (nat_lt n size) (Some n) None) size) (found_point ds r all)
    ∙ ap (λ b. unwrap_or (cond b (Some (length ds)) None) size) (lt-ltb (length ds) size (omega (arith, length-append ds (46 ∷ r))))

point_at_end : (ds : List ℕ) → list_all is_digit ds ≡ true → point_of ds ≡ length ds
point_at_end ds all =
    ap (λ n. unwrap_or (cond (nat_lt n (length ds)) (Some n) None) (length ds)) (no_point ds all)
    ∙ ap (λ b. unwrap_or (cond b (Some (length ds)) None) (length ds)) (le-ltb (length ds) (length ds) (omega arith))

past_point : (ds r : List ℕ) → drop (length ds + 1) (ds ++ 46 ∷ r) ≡ r
past_point ds r =
    ap (λ l. drop (length ds + 1) l) (sym (append_assoc ds (46 ∷ []) r))
    ∙ drop_at (ds ++ 46 ∷ []) r (length ds + 1) (omega (arith, length-append ds (46 ∷ [])))

-- ---- a number with these digits before its point and behind it

unsigned_at : (k : ℕ) (text w f : List ℕ) → whole_of text ≡ w → fraction_of text ≡ f → is_digits 10 w ≡ true → list_all is_digit f ≡ true
    → (nat_le 1 (length f) || (point_of text == length text)) ≡ true → unsigned_scaled k text ≡ Some (value_of w * 10 ^ k + places_of k f)
unsigned_at k text w f whole fraction digits behind some =
    let plain = and_from _ _ (and_from _ _ digits behind) some in
    let stands : (w' f' : List ℕ) → w ≡ w' → f ≡ f'
    → cond (is_digits 10 w' && list_all is_digit f' && (nat_le 1 (length f') || (point_of text == length text))) (Some (value_of w' * 10 ^ k + places_of k f')) None
    ≡ Some (value_of w * 10 ^ k + places_of k f) =
    λ w' f' e e'. rw (← e, ← e', digits, behind, some) refl in
    stands (whole_of text) (fraction_of text) (sym whole) (sym fraction)

not_negative : (k : ℕ) (ds r : List ℕ) → list_all is_digit ds ≡ true → 0 < length ds → scaled k (ds ++ r) ≡ signed false (unsigned_scaled k (ds ++ r))
not_negative k [] r all some = absurd (omega arith)
not_negative k (d ∷ ds) r all some =
    ap (λ b. cond b (signed true (unsigned_scaled k (ds ++ r))) (signed false (unsigned_scaled k (d ∷ ds ++ r))))
    (ne_eqb d 45 (λ e. omega (arith, first_digit d ds all)))

-- ---- whole numbers

digits_of : (n : ℕ) → n < 2 ^ 32 → list_all is_digit (decimal n) ≡ true
digits_of n small = (and_parts _ _ (decimal_is_digits n (omega arith))).1

few_digits : (n : ℕ) → n < 2 ^ 32 → is_digits 10 (decimal n) ≡ true
few_digits n small =
    and_from _ _ (and_from _ _ (le-leb 1 (length (decimal n)) (omega (arith, decimal_nonempty n (omega arith))))
    (le-leb (length (decimal n)) 10 (length-decimal-le 10 n (omega arith) (omega arith) (omega arith)))) (digits_of n small)

scaled-decimal : (n : ℕ) → n < 2 ^ 32 → scaled 0 (decimal n) ≡ Some (pos n)
scaled-decimal n small =
    let ds = decimal n in
    let all = digits_of n small in
    let some = decimal_nonempty n (omega arith) in
    let ended = point_at_end ds all in
    let whole : whole_of ds ≡ ds = ap (λ i. take i ds) ended ∙ take-length ds in
    let none : fraction_of ds ≡ [] = ap (λ i. drop (i + 1) ds) ended ∙ drop_all (length ds + 1) ds (omega arith) in
    subst (λ l. scaled 0 l ≡ signed false (unsigned_scaled 0 l)) (append-nil ds) (not_negative 0 ds [] all some)
    ∙ ap (signed false) (unsigned_at 0 ds ds [] whole none (few_digits n small) refl (eq-eqb (point_of ds) (length ds) ended))
    ∙ ap (λ m. Some (pos m)) (omega (arith, value_of-decimal n (omega arith)))

pub whole-decimal : (n : ℕ) → n < 2 ^ 32 → whole_below (2 ^ 32) (scaled 0 (decimal n)) ≡ Some n
whole-decimal n small = ap (whole_below (2 ^ 32)) (scaled-decimal n small) ∙ ap (λ b. cond b (Some n) None) (lt-ltb n (2 ^ 32) small)

-- ---- MHz

a_digit : (weight n : ℕ) → is_digit (digit_at weight n) ≡ true
a_digit weight n = and_from _ _ (le-leb 48 (digit_at weight n) (omega arith)) (le-leb (digit_at weight n) 57 (omega arith))

six_are_digits : (n : ℕ) → list_all is_digit (six_digits n) ≡ true
six_are_digits n =
    and_from _ _ (a_digit 100000 n) (and_from _ _ (a_digit 10000 n) (and_from _ _ (a_digit 1000 n)
    (and_from _ _ (a_digit 100 n) (and_from _ _ (a_digit 10 n) (and_from _ _ (a_digit 1 n) refl)))))

-- the digit of each weight and those of greater ones
by_weights : (n : ℕ) → n / 1000000 * 10 ^ 6 + places_of 6 (six_digits n) ≡ n
by_weights n =
    let a : n / 100000 ≡ n / 1000000 * 10 + n / 100000 % 10 = omega arith in
    let b : n / 10000 ≡ n / 100000 * 10 + n / 10000 % 10 = omega arith in
    let c : n / 1000 ≡ n / 10000 * 10 + n / 1000 % 10 = omega arith in
    let d : n / 100 ≡ n / 1000 * 10 + n / 100 % 10 = omega arith in
    let e : n / 10 ≡ n / 100 * 10 + n / 10 % 10 = omega arith in
    let f : n ≡ n / 10 * 10 + n / 1 % 10 = omega arith in
    omega (arith, a, b, c, d, e, f)

scaled-megahertz : (n : ℕ) → n < 2 ^ 32 → (scaled 6 (megahertz n) ≡ Some (pos n)) × (fraction_of (megahertz n) ≡ six_digits n)
scaled-megahertz n small =
    let ds = decimal (n / 1000000) in
    let text = megahertz n in
    let all = digits_of (n / 1000000) (omega arith) in
    let some = decimal_nonempty (n / 1000000) (omega arith) in
    let at = point_behind ds (six_digits n) all in
    let whole : whole_of text ≡ ds = ap (λ i. take i text) at ∙ take_at ds (46 ∷ six_digits n) (length ds) refl in
    let behind : fraction_of text ≡ six_digits n = ap (λ i. drop (i + 1) text) at ∙ past_point ds (six_digits n) in (
      not_negative 6 ds (46 ∷ six_digits n) all some
          ∙ ap (signed false) (unsigned_at 6 text ds (six_digits n) whole behind (few_digits (n / 1000000) (omega arith)) (six_are_digits n) refl)
          ∙ ap (λ m. Some (pos m)) (omega (arith, by_weights n, value_of-decimal (n / 1000000) (omega arith))),
      behind,
    )

pub frequency-megahertz : (n : ℕ) → n < 2 ^ 32 → frequency_of (megahertz n) ≡ Some n
frequency-megahertz n small =
    let both = scaled-megahertz n small in
    ap (λ l. cond (list_all is_zero_digit (drop 6 l)) (whole_below (2 ^ 32) (scaled 6 (megahertz n))) None) both.1
    ∙ ap (whole_below (2 ^ 32)) both.0
    ∙ ap (λ b. cond b (Some n) None) (lt-ltb n (2 ^ 32) small)

lone_zero : (n : ℕ) → n < 2 ^ 32 → get_or (decimal n) 0 0 ≡ 48 → length (decimal n) ≡ 1
lone_zero zero small e = ap length (decimal_digit 0 (omega arith))
lone_zero (suc n) small e = absurd (omega (arith, e, first_decimal (suc n) (omega arith) (omega arith)))

pub IsNumber-megahertz : (n : ℕ) → n < 2 ^ 32 → IsNumber (megahertz n)
IsNumber-megahertz n small =
    let ds = decimal (n / 1000000) in
    IsNumber-plain (megahertz n) (
      false,
      record { whole = ds; point = true; fraction = six_digits n; exponent_negative = false; exponent = []; len = length (megahertz n) },
      refl,
      record {
        well_formed = record {
          whole_digits = (decimal_is_IsNumeral (n / 1000000) (omega arith)).0.1;
          fraction_digits = own.to (six_digits n) (six_are_digits n);
          exponent_digits = tt;
          no_point = λ e. absurd (cc e);
          no_exponent = λ e. refl;
          len_is = refl;
        };
        whole = decimal_nonempty (n / 1000000) (omega arith);
        no_leading_zero = lone_zero (n / 1000000) (omega arith);
        fraction = λ e. omega arith;
        marked = λ e. absurd (cc e);
      },
    )
