-- Which words are numbers, by computation; what the law on numbers says of the least and the greatest of 64 bits; then what it
-- says of every number.
use Rattle.std.proofs.Common.{ℕ, ◌≡◌, ◌^◌, ◌<◌, List, Some, None, codes, [], refl, arith}
use Rattle.std.specs.Prelude.{decimal, nat_lt, ◌&&◌, if◌then◌else◌}
use Rattle.std.specs.Fmt.{digits}
use Rattle.text_lines.specs.Number.{is_digits, value_of, number_below, NumbersReadBack}

pub zeros_may_lead : number_below 256 (codes "00000000000000000255") ≡ Some 255
zeros_may_lead = refl

none_at_the_bound : number_below 256 (codes "256") ≡ None
none_at_the_bound = refl

none_of_21_digits : number_below 256 (codes "000000000000000000255") ≡ None
none_of_21_digits = refl

none_of_no_digits : number_below 256 [] ≡ None
none_of_no_digits = refl

none_with_a_sign : number_below 256 (codes "-1") ≡ None
none_with_a_sign = refl

none_with_a_colon : number_below 256 (codes "1:") ≡ None
none_with_a_colon = refl

-- from the law alone

pub zero_read_back : NumbersReadBack → number_below (2 ^ 64) (codes "0") ≡ Some 0
unfolding digits
zero_read_back law = law 0 (omega arith)

pub greatest_read_back : NumbersReadBack
    → number_below 18446744073709551616 (codes "18446744073709551615") ≡ Some 18446744073709551615
unfolding digits
greatest_read_back law = law 18446744073709551615 (omega arith)

module _ (number : ℕ) where
  abbrev word : List ℕ
  word = decimal number

  pub each_read_back : NumbersReadBack → number < 18446744073709551616
      → (if is_digits 20 word && nat_lt (value_of word) 18446744073709551616 then Some (value_of word) else None)
      ≡ Some number
  each_read_back law small = law number small
