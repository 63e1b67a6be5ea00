use Rattle.std.proofs.Common.{◌≡◌, ℕ, ◌+◌, ◌-◌, ◌*◌, ◌/◌, ◌<◌, Bool, true, false, refl, sym, ◌∙◌, arith, zero, suc}
use Rattle.std.proofs.Math.Bool.{cond}
use Rattle.std.proofs.Math.Dec.{ltb}
use Rattle.std.proofs.Math.IntN.{pos, negsuc, neg_ℤ, ◌*ℤ◌, sub_ℕ}
use Rattle.std.proofs.Math.Nat.{zero-div, zero-mod}
use Rattle.std.proofs.lemmas.Bool.{ltb-true}
use Rattle.std.specs.Int.{div_ceil}
use Rattle.radio_airtime.specs.declared.data_rate.DataRate.{DataRate}
use Rattle.radio_airtime.specs.declared.data_rate.DataRate.TheVariants.{Dr0, Dr1, Dr2, Dr3, Dr4, Dr5, Dr6}
use Rattle.radio_airtime.specs.DataRate.{spreading_factor_of}
use Rattle.radio_airtime.specs.TimeOnAir.{airtime_of, symbol_us, low_data_rate_optimisation, ceil_div, at_least_zero}

-- The datasheet's formula, which divides whole numbers of either sign, in the form without a sign that
-- the code computes.

-- what is negative, or zero, counts for none
none_below : (m : ℕ) → at_least_zero (neg_ℤ (pos m)) ≡ 0
none_below zero = refl
none_below (suc m) = refl

none_of_five : (q : ℕ) → at_least_zero (neg_ℤ (pos q) *ℤ pos 5) ≡ 0
none_of_five zero = refl
none_of_five (suc q) = none_below (suc q * 5)

-- a numerator below zero gives no symbols, as a numerator of zero does
none_up : (a b d : ℕ) → a < b → 5 * div_ceil (a - b) d ≡ 0
none_up a b d h = let e : a - b ≡ 0 = omega arith in rw (e, zero-div, zero-mod) refl

blocks_by : (t : Bool) (a b d : ℕ) → ltb a b ≡ t → at_least_zero (ceil_div (cond t (negsuc (b - suc a)) (pos (a - b))) d *ℤ pos 5)
    ≡ 5 * div_ceil (a - b) d
blocks_by true a b d h = none_of_five ((b - suc a + 1) / d) ∙ sym (none_up a b d (ltb-true a b h))
blocks_by false a b d h = omega arith

pub blocks : (a b d : ℕ) → at_least_zero (ceil_div (sub_ℕ a b) d *ℤ pos 5) ≡ 5 * div_ceil (a - b) d
blocks a b d = blocks_by (ltb a b) a b d refl

-- time on air, as the code computes it
pub airtime_of-whole : (rate : DataRate) (len : ℕ) →
    airtime_of rate len ≡ (49 + 4 * (8 + 5 * div_ceil (8 * len + 28 - 4 * spreading_factor_of rate)
    (4 * (spreading_factor_of rate - 2 * low_data_rate_optimisation rate)))) * (symbol_us rate / 4)
unfolding airtime_of
airtime_of-whole Dr0 len = let e = blocks (8 * len + 28 + 0) 48 40 in omega (arith, e)
airtime_of-whole Dr1 len = let e = blocks (8 * len + 28 + 0) 44 36 in omega (arith, e)
airtime_of-whole Dr2 len = let e = blocks (8 * len + 28 + 0) 40 40 in omega (arith, e)
airtime_of-whole Dr3 len = let e = blocks (8 * len + 28 + 0) 36 36 in omega (arith, e)
airtime_of-whole Dr4 len = let e = blocks (8 * len + 28 + 0) 32 32 in omega (arith, e)
airtime_of-whole Dr5 len = let e = blocks (8 * len + 28 + 0) 28 28 in omega (arith, e)
airtime_of-whole Dr6 len = let e = blocks (8 * len + 28 + 0) 28 28 in omega (arith, e)
