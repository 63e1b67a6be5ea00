-- What the standard says of its own definitions, so that a wrong one does not check.
use Rattle.std.proofs.Common.{◌≡◌, ◌∷◌, map, replicate, refl}
use Rattle.std.specs.List.{range_with_len}
use Rattle.aes_cmac.specs.Field.{times_x, product_of_bits, product, power, inverse, s_box}

-- the product of a byte and its inverse is 1, but for the byte 0 (FIPS 197 section 4.4)
pub inverse_is : map (λ b. product b (inverse b)) (range_with_len 0 256) ≡ 0 ∷ replicate 255 1
unfolding times_x product_of_bits product power inverse
inverse_is = refl

-- the worked product of FIPS 197 section 4.2
pub product-57-83 : product 0x57 0x83 ≡ 0xc1
unfolding times_x product_of_bits product
product-57-83 = refl

-- the worked byte of FIPS 197 section 5.1.1
pub s_box-53 : s_box 0x53 ≡ 0xed
unfolding times_x product_of_bits product power inverse s_box
s_box-53 = refl

pub s_box-00 : s_box 0 ≡ 0x63
unfolding times_x product_of_bits product power inverse s_box
s_box-00 = refl
