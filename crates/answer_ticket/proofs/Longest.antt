use Rattle.std.specs.Prelude.{ℕ, ◌≤◌}
use Rattle.std.proofs.Common.{arith}
use Rattle.radio_airtime.specs.declared.data_rate.DataRate.{DataRate}
use Rattle.radio_airtime.specs.declared.data_rate.DataRate.TheVariants.{Dr0, Dr1, Dr2, Dr3, Dr4, Dr5, Dr6}
use Rattle.radio_airtime.specs.DataRate.{max_phy_of}
use Rattle.radio_airtime.specs.TimeOnAir.{airtime_of}
use Rattle.radio_airtime.specs.WholeNumbers.{airtime_of-whole}
use Rattle.answer_ticket.specs.Ended.{longest_us}

-- No frame of a length of its data rate is on air for longer than 64 bytes at DR0.
pub within_longest : (rate : DataRate) (len : ℕ) → len ≤ max_phy_of rate → airtime_of rate len ≤ longest_us
within_longest Dr0 len h = omega (arith, airtime_of-whole Dr0 len)
within_longest Dr1 len h = omega (arith, airtime_of-whole Dr1 len)
within_longest Dr2 len h = omega (arith, airtime_of-whole Dr2 len)
within_longest Dr3 len h = omega (arith, airtime_of-whole Dr3 len)
within_longest Dr4 len h = omega (arith, airtime_of-whole Dr4 len)
within_longest Dr5 len h = omega (arith, airtime_of-whole Dr5 len)
within_longest Dr6 len h = omega (arith, airtime_of-whole Dr6 len)
