-- No byte of a line is a line feed: the bytes of a word are letters, digits or a dash, and a space stands between two words.
use Rattle.std.proofs.Common.{◌≡◌, ◌≢◌, ℕ, zero, suc, ◌+◌, ◌<◌, ◌/◌, ◌%◌, ◌==◌, nat_lt, Bool, true, false, not, ◌&&◌}
use Rattle.std.proofs.Common.{List, [], ◌∷◌, ◌++◌, refl, sym, subst, ◌∙◌, arith, map, get_or}
use Rattle.std.proofs.Common.{if◌then◌else◌, true≢false}
use Rattle.std.specs.Prelude.{decimal, All}
use Rattle.std.specs.Fmt.{digit_glyph, digits_onto, digits}
use Rattle.std.specs.List.{list_all, join_with_byte, flat_map}
use Rattle.std.proofs.lemmas.Bool.{and_from, and_parts, eqb-true}
use Rattle.std.proofs.lemmas.List.Folds.{list_all-append}
use Rattle.std.proofs.lemmas.List.Elements.{All-nil, All-cons}
use Rattle.hex.specs.Hex.{encode_with, lower_digits, encode_lower}
use Rattle.text_lines.specs.Line.{HasNoLineFeed}

-- whether no byte is a line feed
abbrev pub is_whole : List ℕ → Bool
is_whole line = list_all (λ b. not (b == 10)) line

-- the same of all of these words or lines
abbrev pub are_whole : List (List ℕ) → Bool
are_whole lines = list_all is_whole lines

pub record AreWhole (lines : List (List ℕ)) : Type 0 where
  pub test : are_whole lines ≡ true

not_feed : (b : ℕ) → not (b == 10) ≡ true → b ≢ 10
not_feed b h e = absurd (true≢false (sym (subst (λ x. not (x == 10) ≡ true) e h)))

pub no_feed : (line : List ℕ) → is_whole line ≡ true → HasNoLineFeed line
no_feed [] h = All-nil (λ b. b ≢ 10)
no_feed (b ∷ line) h =
    let parts = and_parts (not (b == 10)) (is_whole line) h in
    All-cons (λ b. b ≢ 10) b line (not_feed b parts.0) (no_feed line parts.1)

pub no_feeds : (lines : List (List ℕ)) → are_whole lines ≡ true → All HasNoLineFeed lines
no_feeds [] h = All-nil HasNoLineFeed
no_feeds (line ∷ lines) h =
    let parts = and_parts (is_whole line) (are_whole lines) h in
    All-cons HasNoLineFeed line lines (no_feed line parts.0) (no_feeds lines parts.1)

pub whole_append : (a b : List ℕ) → is_whole a ≡ true → is_whole b ≡ true → is_whole (a ++ b) ≡ true
whole_append a b h k = list_all-append (λ x. not (x == 10)) a b ∙ and_from (is_whole a) (is_whole b) h k

pub lines_append : (a b : List (List ℕ)) → AreWhole a → AreWhole b → AreWhole (a ++ b)
lines_append a b h k =
    record { test = list_all-append is_whole a b ∙ and_from (are_whole a) (are_whole b) h.test k.test }

-- one word or line more
pub next : (line : List ℕ) (lines : List (List ℕ)) → is_whole line ≡ true → AreWhole lines → AreWhole (line ∷ lines)
next line lines h k = record { test = and_from (is_whole line) (are_whole lines) h k.test }

pub lines_map : {X : Type 0} (f : X → List ℕ) → ((x : X) → is_whole (f x) ≡ true) → (xs : List X) → AreWhole (map f xs)
lines_map f h [] = record { test = refl }
lines_map f h (x ∷ xs) = next (f x) (map f xs) (h x) (lines_map f h xs)

pub lines_of_each : {X : Type 0} (f : X → List (List ℕ)) → ((x : X) → AreWhole (f x)) → (xs : List X) → AreWhole (flat_map f xs)
lines_of_each f h [] = record { test = refl }
lines_of_each f h (x ∷ xs) = lines_append (f x) (flat_map f xs) (h x) (lines_of_each f h xs)

joined_test : (words : List (List ℕ)) → are_whole words ≡ true → is_whole (join_with_byte 32 words) ≡ true
joined_test [] h = refl
joined_test (w ∷ []) h = (and_parts (is_whole w) true h).0
joined_test (w ∷ v ∷ words) h =
    let parts = and_parts (is_whole w) (are_whole (v ∷ words)) h in
    whole_append w (32 ∷ join_with_byte 32 (v ∷ words)) parts.0 (joined_test (v ∷ words) parts.1)

-- words with a space between two
pub joined : (words : List (List ℕ)) → AreWhole words → is_whole (join_with_byte 32 words) ≡ true
joined words h = joined_test words h.test

-- a number above 10 is no line feed
no_feed_above : (n : ℕ) (b : Bool) → (n == 10) ≡ b → 10 < n → not b ≡ true
no_feed_above n false e above = refl
no_feed_above n true e above = let same : n ≡ 10 = eqb-true n 10 e in absurd (omega (arith, same, above))

glyph_above : (d : ℕ) (upper small : Bool) → 10 < (if small then 48 + d else (if upper then 55 + d else 87 + d))
glyph_above d upper true = omega arith
glyph_above d true false = omega arith
glyph_above d false false = omega arith

whole_glyph : (upper : Bool) (d : ℕ) → not (digit_glyph upper d == 10) ≡ true
whole_glyph upper d =
    no_feed_above (digit_glyph upper d) (digit_glyph upper d == 10) refl (glyph_above d upper (nat_lt d 10))

one_of_two : (t : Bool) (a b : List ℕ) → is_whole a ≡ true → is_whole b ≡ true → is_whole (if t then a else b) ≡ true
one_of_two true a b h k = h
one_of_two false a b h k = k

whole_digits : (k base : ℕ) (upper : Bool) (n : ℕ) (acc : List ℕ) → is_whole acc ≡ true
    → is_whole (digits_onto k base upper n acc) ≡ true
whole_digits zero base upper n acc h = h
whole_digits (suc k) base upper n acc h =
    let next : is_whole (digit_glyph upper (n % base) ∷ acc) ≡ true =
    and_from (not (digit_glyph upper (n % base) == 10)) (is_whole acc) (whole_glyph upper (n % base)) h in
    one_of_two (n / base == 0) (digit_glyph upper (n % base) ∷ acc)
    (digits_onto k base upper (n / base) (digit_glyph upper (n % base) ∷ acc)) next
    (whole_digits k base upper (n / base) (digit_glyph upper (n % base) ∷ acc) next)

pub whole_decimal : (n : ℕ) → is_whole (decimal n) ≡ true
unfolding digits
whole_decimal n = whole_digits 64 10 false n [] refl

whole_at : (table : List ℕ) (k : ℕ) → is_whole table ≡ true → not (get_or table k 0 == 10) ≡ true
whole_at [] k h = refl
whole_at (b ∷ table) zero h = (and_parts (not (b == 10)) (is_whole table) h).0
whole_at (b ∷ table) (suc k) h = whole_at table k (and_parts (not (b == 10)) (is_whole table) h).1

pub whole_hex : (bytes : List ℕ) → is_whole (encode_lower bytes) ≡ true
unfolding encode_with
whole_hex [] = refl
whole_hex (b ∷ bytes) =
    and_from (not (get_or lower_digits (b / 16) 0 == 10))
    (not (get_or lower_digits (b % 16) 0 == 10) && is_whole (encode_lower bytes)) (whole_at lower_digits (b / 16) refl)
    (and_from (not (get_or lower_digits (b % 16) 0 == 10)) (is_whole (encode_lower bytes)) (whole_at lower_digits (b % 16) refl)
    (whole_hex bytes))
