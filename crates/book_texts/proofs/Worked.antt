-- The definition of the output at worked inputs.
use Rattle.std.proofs.Common.{◌≡◌, [], ◌∷◌, codes, refl}
use Rattle.std.specs.Fmt.{digits}
use Rattle.radio_airtime.specs.TimeOnAir.{airtime_of}
use Rattle.radio_bands.specs.Band.{band_of}
use Rattle.resv_list.specs.Reservations.{begun, net}
use Rattle.gateway_book.specs.Answer.{overlap}
use Rattle.gateway_book.specs.Kept.{kept}
use Rattle.gateway_book.specs.Duty.{full_hour}
use Rattle.gateway_book.specs.Busiest.{busiest_of}
use Rattle.gateway_book.specs.EarliestValue.{earliest_of}
use Rattle.book_texts.specs.Output.{output}
use Rattle.book_texts.specs.Planning.{plan_output}
use Rattle.book_texts.specs.Toa.{toa_line}

-- two transmissions that touch, and a third that overlaps both
pub three_bookings :
    output (record { cap = 4096; gap = 0 }) [] (codes "book 1 10000000 868100000 5 12" ∷ codes "book 2 10041216 868100000 5 12"
    ∷ codes "book 3 10041215 868100000 5 12" ∷ [])
    ≡ codes "ok 1 10000000 10041216" ∷ codes "ok 2 10041216 10082432" ∷ codes "no 3 Taken 10000000" ∷ codes "booked 82432"
    ∷ codes "cancelled 0" ∷ codes "retired 0" ∷ codes "kept 2 82432" ∷ codes "floor 0" ∷ codes "busiest M 10000000 82432" ∷ []
unfolding airtime_of band_of net begun kept overlap full_hour busiest_of digits
three_bookings = refl

-- malformed lines, a comment and a blank line between; the booking at line 4 finds no memory
pub starved_booking :
    output (record { cap = 4096; gap = 0 }) (4 ∷ []) (codes "book 1 0 868100000 5" ∷ codes "# note" ∷ []
    ∷ codes "book 1 0 868100000 5 12" ∷ codes "book 2 0 868100000 7 12" ∷ codes "cancel 1" ∷ [])
    ≡ codes "bad 1 Syntax" ∷ codes "no 1 NoMemory" ∷ codes "bad 5 Syntax" ∷ codes "bad 6 Syntax" ∷ codes "booked 0"
    ∷ codes "cancelled 0" ∷ codes "retired 0" ∷ codes "kept 0 0" ∷ codes "floor 0" ∷ []
unfolding airtime_of band_of net begun kept overlap full_hour busiest_of digits
starved_booking = refl

-- a cap of one transmission
pub full_book :
    output (record { cap = 1; gap = 0 }) [] (codes "book 1 0 868100000 5 12" ∷ codes "book 2 1000000 868100000 5 12" ∷ [])
    ≡ codes "ok 1 0 41216" ∷ codes "no 2 Full" ∷ codes "booked 41216" ∷ codes "cancelled 0" ∷ codes "retired 0"
    ∷ codes "kept 1 41216" ∷ codes "floor 0" ∷ codes "busiest M 0 41216" ∷ []
unfolding airtime_of band_of net begun kept overlap full_hour busiest_of digits
full_book = refl

-- a full hour of sub-band K, a cancellation that makes room in it, and one that comes too late
pub full_hour_of_k :
    output (record { cap = 4096; gap = 0 }) [] (codes "book 1 0 863500000 0 12" ∷ codes "book 2 1000000 863500000 0 12"
    ∷ codes "book 3 2000000 863500000 0 12" ∷ codes "book 4 3599999999 863500000 0 12" ∷ codes "cancel 3 2000000"
    ∷ codes "book 5 3599999999 863500000 0 12" ∷ codes "tick 3600000000" ∷ codes "cancel 5 3599999999" ∷ codes "tick 1" ∷ [])
    ≡ codes "ok 1 0 991232" ∷ codes "ok 2 1000000 1991232" ∷ codes "ok 3 2000000 2991232" ∷ codes "no 4 DutyFull K 0 2973696"
    ∷ codes "cancelled 3 991232" ∷ codes "ok 5 3599999999 3600991231" ∷ codes "floor 3600000000" ∷ codes "no 5 Begun"
    ∷ codes "floor 3600000000" ∷ codes "booked 3964928" ∷ codes "cancelled 991232" ∷ codes "retired 0"
    ∷ codes "kept 3 2973696" ∷ codes "floor 3600000000" ∷ codes "busiest K 0 2973696" ∷ []
unfolding airtime_of band_of net begun kept overlap full_hour busiest_of digits
full_hour_of_k = refl

-- bookings that are tried: one that overlaps what is booked, one that is accepted, and one that overlaps both; the report is of
-- what is booked
pub planned_bookings :
    plan_output (record { cap = 4096; gap = 0 }) [] (codes "book 1 10000000 868100000 5 12" ∷ codes "plan"
    ∷ codes "book 8 10000000 868100000 5 12" ∷ codes "book 9 10041216 868100000 5 12"
    ∷ codes "book 10 10041215 868100000 5 12" ∷ [])
    ≡ codes "ok 1 10000000 10041216" ∷ codes "if no 8 Taken 10000000" ∷ codes "if ok 9 10041216 10082432"
    ∷ codes "if no 10 Taken 10000000" ∷ codes "booked 41216" ∷ codes "cancelled 0" ∷ codes "retired 0" ∷ codes "kept 1 41216"
    ∷ codes "floor 0" ∷ codes "busiest M 10000000 41216" ∷ []
unfolding airtime_of band_of net begun kept overlap full_hour busiest_of digits
planned_bookings = refl

-- after a line `plan` no tick and no cancel is taken, and no second `plan`; the second booking finds no memory, and the third
-- would find none, but is refused before that
pub planned_alone :
    plan_output (record { cap = 2; gap = 0 }) (7 ∷ 8 ∷ []) (codes "plan now" ∷ codes "  plan " ∷ codes "plan" ∷ codes "tick 5"
    ∷ [] ∷ codes "book 1 0 868100000 5 12" ∷ codes "book 1 5000000 868100000 5 12" ∷ codes "book 2 0 868100000 5 12"
    ∷ codes "cancel 1 0" ∷ [])
    ≡ codes "bad 1 Syntax" ∷ codes "bad 3 Syntax" ∷ codes "bad 4 Syntax" ∷ codes "if ok 1 0 41216" ∷ codes "if no 1 NoMemory"
    ∷ codes "if no 2 Taken 0" ∷ codes "bad 9 Syntax" ∷ codes "booked 0" ∷ codes "cancelled 0" ∷ codes "retired 0"
    ∷ codes "kept 0 0" ∷ codes "floor 0" ∷ []
unfolding airtime_of band_of net begun kept overlap full_hour busiest_of digits
planned_alone = refl

-- the earliest start beside what is booked and where there is none, and the same in a plan after a booking that is tried
pub earliest_starts :
    plan_output (record { cap = 4096; gap = 0 }) [] (codes "book 1 10000000 868100000 5 12"
    ∷ codes "earliest 2 10041214 10041218 868100000 5 12" ∷ codes "earliest 3 10041213 10041215 868100000 5 12" ∷ codes "plan"
    ∷ codes "book 8 10041216 868100000 5 12" ∷ codes "earliest 9 10082430 10082434 868100000 5 12"
    ∷ codes "earliest 10 10082430 10082431 868100000 5 12" ∷ [])
    ≡ codes "ok 1 10000000 10041216" ∷ codes "at 2 10041216" ∷ codes "no 3 NoStart" ∷ codes "if ok 8 10041216 10082432"
    ∷ codes "if at 9 10082432" ∷ codes "if no 10 NoStart" ∷ codes "booked 41216"
    ∷ codes "cancelled 0" ∷ codes "retired 0" ∷ codes "kept 1 41216" ∷ codes "floor 0" ∷ codes "busiest M 10000000 41216" ∷ []
unfolding airtime_of band_of net begun kept overlap full_hour busiest_of earliest_of digits
earliest_starts = refl

-- a plan whose book can't be copied: whatever is asked finds no memory, also what would be refused
pub uncopied_plan :
    plan_output (record { cap = 4096; gap = 0 }) (2 ∷ []) (codes "book 1 10000000 868100000 5 12" ∷ codes "plan"
    ∷ codes "book 8 10000000 868100000 5 12" ∷ codes "book 9 10041216 868100000 5 12"
    ∷ codes "earliest 10 10041214 10041218 868100000 5 12" ∷ [])
    ≡ codes "ok 1 10000000 10041216" ∷ codes "if no 8 NoMemory" ∷ codes "if no 9 NoMemory" ∷ codes "if no 10 NoMemory"
    ∷ codes "booked 41216" ∷ codes "cancelled 0" ∷ codes "retired 0" ∷ codes "kept 1 41216" ∷ codes "floor 0"
    ∷ codes "busiest M 10000000 41216" ∷ []
unfolding airtime_of band_of net begun kept overlap full_hour busiest_of earliest_of digits
uncopied_plan = refl

pub longest_frame : toa_line 0 64 ≡ codes "2793472"
unfolding airtime_of digits
longest_frame = refl

pub too_long_frame : toa_line 0 65 ≡ codes "no TooLong"
unfolding airtime_of digits
too_long_frame = refl

pub unknown_rate : toa_line 7 12 ≡ codes "no NoRate"
unfolding airtime_of digits
unknown_rate = refl
