-- Of two refusals that both hold the earlier one is answered: worked asks, one for each two neighbours, by computation. The last
-- of them is out of the reach of any run, since no book comes near the greatest total.
use Rattle.std.proofs.Common.{ℕ, ◌≡◌, ◌-◌, ◌^◌, List, [], None, Some, refl}
use Rattle.radio_airtime.specs.TimeOnAir.{airtime_of}
use Rattle.radio_airtime.specs.declared.data_rate.DataRate.TheVariants.{Dr0, Dr5}
use Rattle.radio_bands.specs.Band.{band_of}
use Rattle.radio_bands.specs.declared.band.Band.TheVariants.{K}
use Rattle.resv_list.specs.declared.reservation.Reservation.{Reservation}
use Rattle.resv_list.specs.Reservations.{begun}
use Rattle.gateway_book.specs.declared.ask.Ask.{Ask}
use Rattle.gateway_book.specs.declared.refusal.Refusal.TheVariants.{NoBand, TooLong, PastEnd, Passed, Taken, DutyFull, Full}
use Rattle.gateway_book.specs.declared.refusal.Refusal.TheVariants.{TotalsFull}
use Rattle.gateway_book.specs.Answer.{Terms, overlap, refusal_of}
use Rattle.gateway_book.specs.Duty.{full_hour}
use Rattle.gateway_book.specs.Kept.{kept}
use Rattle.gateway_book.specs.Step.{reservation_of, placed}

-- 12 bytes at DR5 on a channel of sub-band M: 41,216 us
abbrev pub fast_at : ℕ → Ask
fast_at start = record { number = 1; start = start; freq_hz = 868100000; rate = Dr5; len = 12 }

-- 12 bytes at DR0 on a channel of sub-band K: 991,232 us, so that an hour has room for three
abbrev pub slow_at : ℕ → Ask
slow_at start = record { number = 1; start = start; freq_hz = 863500000; rate = Dr0; len = 12 }

abbrev pub one_member : List Reservation
one_member = placed (reservation_of (fast_at 10000000)) []

abbrev pub full_hour_of_k : List Reservation
full_hour_of_k =
    placed (reservation_of (slow_at 0)) (placed (reservation_of (slow_at 1000000)) (placed (reservation_of (slow_at 2000000)) []))

abbrev pub terms : ℕ → ℕ → ℕ → Terms
terms floor cap booked = record { floor = floor; rules = record { cap = cap; gap = 0 }; booked = booked }

pub no_band_before_too_long :
    refusal_of (terms 0 1 0) [] (record { number = 1; start = 0; freq_hz = 868600000; rate = Dr0; len = 255 }) ≡ Some NoBand
unfolding airtime_of band_of begun kept overlap full_hour
no_band_before_too_long = refl

pub too_long_before_past_end :
    refusal_of (terms 0 1 0) [] (record { number = 1; start = 2 ^ 61; freq_hz = 868100000; rate = Dr0; len = 255 }) ≡ Some TooLong
unfolding airtime_of band_of begun kept overlap full_hour
too_long_before_past_end = refl

pub past_end_before_passed : refusal_of (terms (2 ^ 62) 1 0) [] (fast_at (2 ^ 61)) ≡ Some PastEnd
unfolding airtime_of band_of begun kept overlap full_hour
past_end_before_passed = refl

pub passed_before_taken : refusal_of (terms 10000001 2 0) one_member (fast_at 10000000) ≡ Some Passed
unfolding airtime_of band_of begun kept overlap full_hour
passed_before_taken = refl

pub taken_before_duty_full : refusal_of (terms 0 4 0) full_hour_of_k (slow_at 2000001) ≡ Some (Taken 2000000)
unfolding airtime_of band_of begun kept overlap full_hour
taken_before_duty_full = refl

pub duty_full_before_full : refusal_of (terms 0 3 0) full_hour_of_k (slow_at 3599999999) ≡ Some (DutyFull K 0 2973696)
unfolding airtime_of band_of begun kept overlap full_hour
duty_full_before_full = refl

pub full_before_totals_full : refusal_of (terms 0 1 (2 ^ 62)) one_member (fast_at 20000000) ≡ Some Full
unfolding airtime_of band_of begun kept overlap full_hour
full_before_totals_full = refl

pub totals_full_alone : refusal_of (terms 0 2 (2 ^ 62 - 41215)) one_member (fast_at 20000000) ≡ Some TotalsFull
unfolding airtime_of band_of begun kept overlap full_hour
totals_full_alone = refl

pub just_within_the_greatest_total : refusal_of (terms 0 2 (2 ^ 62 - 41216)) one_member (fast_at 20000000) ≡ None
unfolding airtime_of band_of begun kept overlap full_hour
just_within_the_greatest_total = refl
