use Rattle.std.proofs.Common.{◌<◌, ℕ, sym, subst, arith}
use Rattle.radio_airtime.specs.WholeNumbers.{airtime_of-whole}
use Rattle.radio_airtime.specs.declared.data_rate.DataRate.{DataRate}
use Rattle.radio_airtime.specs.declared.data_rate.DataRate.TheVariants.{Dr0, Dr1, Dr2, Dr3, Dr4, Dr5, Dr6}
use Rattle.radio_airtime.specs.TimeOnAir.{airtime_of}
use Rattle.radio_airtime.specs.Bounds.{airtime_of-positive}
use Rattle.radio_airtime.proofs.time_on_air.airtime.Goals as goal

-- every frame is on air for less than ten seconds, far below an hour
airtime_of-short : (rate : DataRate) (len : ℕ) → len < 256 → airtime_of rate len < 10000000
airtime_of-short Dr0 len h = omega (arith, airtime_of-whole Dr0 len)
airtime_of-short Dr1 len h = omega (arith, airtime_of-whole Dr1 len)
airtime_of-short Dr2 len h = omega (arith, airtime_of-whole Dr2 len)
airtime_of-short Dr3 len h = omega (arith, airtime_of-whole Dr3 len)
airtime_of-short Dr4 len h = omega (arith, airtime_of-whole Dr4 len)
airtime_of-short Dr5 len h = omega (arith, airtime_of-whole Dr5 len)
airtime_of-short Dr6 len h = omega (arith, airtime_of-whole Dr6 len)

pub returns-clause-value : goal.returns-clause-value
returns-clause-value c =
    rw (
      c.quarter_symbol_us.ensures,
      c.blocks_of.ensures,
      c.saturating_sub-bits.ensures,
      c.spreading_factor.ensures,
      c.from.ensures,
    )
    (sym (airtime_of-whole c.args.rate c.args.len))

pub returns-clause-positive : goal.returns-clause-positive
returns-clause-positive c =
    subst (λ (n : ℕ). 0 < n) (sym (returns-clause-value c)) (airtime_of-positive c.args.rate c.args.len)

pub returns-clause-short : goal.returns-clause-short
returns-clause-short c =
    subst (λ (n : ℕ). n < 10000000) (sym (returns-clause-value c)) (airtime_of-short c.args.rate c.args.len (omega arith))
