use Rattle.std.specs.Prelude.{◌≡◌, ℕ}
use Rattle.std.specs.Coded.{le_prop}
use mathlib.Core.Bool.{Bool-set}
use mathlib.Core.HLevel.{is_prop→PathP}
use Rattle.radio_airtime.specs.declared.data_rate.DataRate.{DataRate}
use Rattle.resv_list.specs.declared.reservation.Reservation.{Reservation}
use Rattle.resv_list.specs.Fit.{IsFit}

-- Two reservations with the same fields are the same, since fitness has one proof at most.

pub IsFit-prop : (start freq_hz : ℕ) (rate : DataRate) (len : ℕ) → IsProp (IsFit start freq_hz rate len)
IsFit-prop start freq_hz rate len = hlevel (le_prop, Bool-set)

pub same_fields : (r s : Reservation) → r.number ≡ s.number → r.start ≡ s.start → r.freq_hz ≡ s.freq_hz → r.rate ≡ s.rate
    → r.len ≡ s.len → r ≡ s
same_fields r s n b f d l =
    λ i.
    record {
      number = n i;
      start = b i;
      freq_hz = f i;
      rate = d i;
      len = l i;
      fit = is_prop→PathP (λ j. IsFit (b j) (f j) (d j) (l j)) (λ j. IsFit-prop (b j) (f j) (d j) (l j)) r.fit s.fit i;
    }
