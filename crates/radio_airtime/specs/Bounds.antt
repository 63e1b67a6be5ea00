use Rattle.std.specs.Prelude.{ℕ, ◌<◌, ◌≤◌}
use Rattle.std.proofs.Common.{arith}
use Rattle.radio_airtime.specs.declared.data_rate.DataRate.{DataRate}
use Rattle.radio_airtime.specs.declared.data_rate.DataRate.TheVariants.{Dr0, Dr1, Dr2, Dr3, Dr4, Dr5, Dr6}
use Rattle.radio_airtime.specs.DataRate.{max_phy_of}
use Rattle.radio_airtime.specs.TimeOnAir.{airtime_of}
use Rattle.radio_airtime.specs.WholeNumbers.{airtime_of-whole}

-- no frame is on air for no time
pub airtime_of-positive : (rate : DataRate) (len : ℕ) → 0 < airtime_of rate len
airtime_of-positive Dr0 len = omega (arith, airtime_of-whole Dr0 len)
airtime_of-positive Dr1 len = omega (arith, airtime_of-whole Dr1 len)
airtime_of-positive Dr2 len = omega (arith, airtime_of-whole Dr2 len)
airtime_of-positive Dr3 len = omega (arith, airtime_of-whole Dr3 len)
airtime_of-positive Dr4 len = omega (arith, airtime_of-whole Dr4 len)
airtime_of-positive Dr5 len = omega (arith, airtime_of-whole Dr5 len)
airtime_of-positive Dr6 len = omega (arith, airtime_of-whole Dr6 len)

-- and none that its data rate carries for ten seconds
pub airtime_of-short : (rate : DataRate) (len : ℕ) → len ≤ max_phy_of rate → airtime_of rate len < 10000000
airtime_of-short Dr0 len h = omega (arith, airtime_of-whole Dr0 len)
airtime_of-short Dr1 len h = omega (arith, airtime_of-whole Dr1 len)
airtime_of-short Dr2 len h = omega (arith, airtime_of-whole Dr2 len)
airtime_of-short Dr3 len h = omega (arith, airtime_of-whole Dr3 len)
airtime_of-short Dr4 len h = omega (arith, airtime_of-whole Dr4 len)
airtime_of-short Dr5 len h = omega (arith, airtime_of-whole Dr5 len)
airtime_of-short Dr6 len h = omega (arith, airtime_of-whole Dr6 len)
