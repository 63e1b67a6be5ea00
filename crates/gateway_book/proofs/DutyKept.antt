use Rattle.std.specs.Prelude.{ℕ, ◌≡◌, ◌+◌, ◌<◌, ◌≤◌, nat_lt, nat_le, Bool, true, false, ◌&&◌, List, Option, Some, None, cond}
use Rattle.std.specs.Prelude.{refl}
use Rattle.std.proofs.Common.{arith, subst}
use Rattle.std.proofs.lemmas.Bool.Decides.{nat_tests}
use Rattle.radio_bands.specs.declared.band.Band.{Band}
use Rattle.radio_bands.specs.Band.{hour, limit_of, band_of}
use Rattle.radio_bands.proofs.BandLaws.{lies_in-true, LiesIn-band_of}
use Rattle.resv_list.specs.declared.reservation.Reservation.{Reservation}
use Rattle.resv_list.specs.Reservations.{airtime_us, is_in, spent, place}
use Rattle.gateway_book.specs.Duty.{full_hour}
use Rattle.gateway_book.specs.Laws.{IsDutyAnswer}
use Rattle.resv_list.proofs.BegunLemmas.{begun-place}
use Rattle.gateway_book.proofs.DutyLaws.{full_hour_answers}

-- A reservation that overfills no hour keeps the limits of every hour.

in_hour : (q u : Bool) (t s air old limit : ℕ) → nat_le t s ≡ q → nat_lt s (t + hour) ≡ u → old ≤ limit
    → (t ≤ s → s < t + hour → old + air ≤ limit) → cond (q && u) air 0 + old ≤ limit
in_hour q u t s air old limit e f h g = in_hour_by (q && u) refl
  where
    in_hour_by : (w : Bool) → (q && u) ≡ w → cond w air 0 + old ≤ limit
    in_hour_by true both =
        let k : old + air ≤ limit = g (grind (arith, nat_tests)) (grind (arith, nat_tests)) in
        omega arith
    in_hour_by false both = omega arith

by_band : (l : List Reservation) (r : Reservation) (band : Band) (t : ℕ) (p : Bool) → is_in band r ≡ p
    → spent l band t ≤ limit_of band → (p ≡ true → t ≤ r.start → r.start < t + hour
    → spent l band t + airtime_us r ≤ limit_of band) → cond (p && nat_le t r.start && nat_lt r.start (t + hour))
    (airtime_us r) 0 + spent l band t ≤ limit_of band
by_band l r band t true e old new = in_hour (nat_le t r.start) (nat_lt r.start (t + hour)) t r.start (airtime_us r)
    (spent l band t) (limit_of band) refl refl old (new refl)
by_band l r band t false e old new = omega (arith, old)

room : (l : List Reservation) (r : Reservation) (band : Band) (t : ℕ) → full_hour l band r.start (airtime_us r) ≡ None
    → t ≤ r.start → r.start < t + hour → spent l band t + airtime_us r ≤ limit_of band
room l r band t e a b =
    let P : Option ℕ → Type 0 = λ o. IsDutyAnswer l band r.start (airtime_us r) o in
    let none : P None = subst P e (full_hour_answers l band r.start (airtime_us r)) in
    none t a b

pub duty_placed : (l : List Reservation) (r : Reservation) → ((band : Band) (t : ℕ) → spent l band t ≤ limit_of band)
    → ((band : Band) → band_of r.freq_hz r.rate ≡ Some band → full_hour l band r.start (airtime_us r) ≡ None)
    → (band : Band) (t : ℕ) → spent (place r l) band t ≤ limit_of band
duty_placed l r old clear band t =
    let sum = begun-place band t (t + hour) r l in
    let new =
    by_band l r band t (is_in band r) refl (old band t)
    (λ p a b. room l r band t (clear band (LiesIn-band_of r.freq_hz r.rate band (lies_in-true r.freq_hz r.rate band p))) a b) in
    omega (arith, sum, new)
