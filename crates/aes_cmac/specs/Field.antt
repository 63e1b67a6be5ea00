-- Bytes as polynomials over two elements, modulo x^8 + x^4 + x^3 + x + 1 (FIPS 197 section 4).
use Rattle.std.specs.Prelude.{ℕ, zero, suc, ◌+◌, ◌-◌, ◌*◌, ◌/◌, ◌%◌, ◌^◌, nat_lt, bit_xor, if◌then◌else◌}
use Rattle.std.specs.Int.{bit_at}

-- a byte times x: shifted left, and x^8 replaced by x^4 + x^3 + x + 1 (section 4.2)
unfoldable pub times_x : ℕ → ℕ
times_x b = if nat_lt b 128 then 2 * b else bit_xor (2 * b - 256) 0x1b

-- a times the polynomial of the lowest n bits of b: a where its lowest bit is 1, and x a times the
-- rest (section 4.2)
unfoldable pub product_of_bits : ℕ → ℕ → ℕ → ℕ
product_of_bits zero a b = 0
product_of_bits (suc n) a b = bit_xor (b % 2 * a) (product_of_bits n (times_x a) (b / 2))

-- the product of two bytes (section 4.2)
unfoldable pub product : ℕ → ℕ → ℕ
product a b = product_of_bits 8 a b

-- a byte to the power n
unfoldable pub power : ℕ → ℕ → ℕ
power b zero = 1
power b (suc n) = product (power b n) b

-- the byte whose product with b is 1, and 0 for 0: b to the power 254 (section 4.4)
unfoldable pub inverse : ℕ → ℕ
inverse b = power b 254

-- bit i of the affine transformation of a byte (section 5.1.1)
abbrev pub affine_bit : ℕ → ℕ → ℕ
affine_bit b i =
    (bit_at b i + bit_at b ((i + 4) % 8) + bit_at b ((i + 5) % 8) + bit_at b ((i + 6) % 8) + bit_at b
    ((i + 7) % 8) + bit_at 0x63 i) % 2

-- the byte whose bits are those of f, from bit 0 up to bit n - 1
abbrev pub from_bits : (ℕ → ℕ) → ℕ → ℕ
from_bits f zero = 0
from_bits f (suc n) = from_bits f n + f n * 2 ^ n

-- SubBytes of one byte: the affine transformation of its inverse (section 5.1.1)
unfoldable pub s_box : ℕ → ℕ
s_box b = from_bits (affine_bit (inverse b)) 8
