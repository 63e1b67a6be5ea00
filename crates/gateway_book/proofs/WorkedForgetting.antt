-- What a gateway answers and keeps, command by command, at a worked list, by computation, and for every list; and what the law of
-- forgetting says of every gateway.
use Rattle.std.proofs.Common.{ℕ, ◌≡◌, ◌≢◌, ◌+◌, ◌-◌, ◌^◌, ◌≤◌, max, List, [], ◌∷◌, Some, None, Ok, Err}
use Rattle.std.proofs.Common.{refl, arith, zero, suc, ap}
use Rattle.std.specs.Prelude.{filter, nat_le, slice_get}
use Rattle.std.proofs.lemmas.Option.{same_Some}
use Rattle.radio_airtime.specs.TimeOnAir.{airtime_of}
use Rattle.radio_airtime.specs.declared.data_rate.DataRate.TheVariants.{Dr0, Dr5}
use Rattle.radio_bands.specs.Band.{band_of}
use Rattle.radio_bands.specs.declared.band.Band.TheVariants.{K}
use Rattle.resv_list.specs.declared.reservation.Reservation.{Reservation}
use Rattle.resv_list.specs.Reservations.{IsByStart, begun, by_start, net}
use Rattle.gateway_book.specs.declared.ask.Ask.{Ask}
use Rattle.gateway_book.specs.declared.cancel.CancelFault.TheVariants.{Begun, NotHere}
use Rattle.gateway_book.specs.declared.refusal.Refusal.{Refusal}
use Rattle.gateway_book.specs.declared.refusal.Refusal.TheVariants.{Passed, Taken, DutyFull, Full, TotalsFull}
use Rattle.gateway_book.specs.Answer.{Rules, IsAsked, overlap, refusal_of}
use Rattle.gateway_book.specs.Book.{Book as GatewaysBook}
use Rattle.gateway_book.specs.Duty.{full_hour}
use Rattle.gateway_book.specs.Forgetting.{Command, Book, Cancel, Tick, Reply, Answered, TakenOut, Floor, reply_to, after_command}
use Rattle.gateway_book.specs.Forgetting.{forgetful, replies, forgetful_replies, HaveOwnStarts, ForgettingIsUnseen}
use Rattle.gateway_book.specs.Kept.{kept}
use Rattle.gateway_book.specs.Lawful.{IsLawful}
use Rattle.gateway_book.specs.Remembers.{Remembers, StandsFor}
use Rattle.gateway_book.specs.Step.{State, is_fit-IsFit, reservation_of, placed, after_answer, cancel_answer, after_cancel}
use Rattle.gateway_book.specs.Step.{without_named}
use Rattle.gateway_book.proofs.WorkedLists.{fast, slow}

-- A gateway with the greatest gap, and three members: one that began more than an hour before the floor, one that began before
-- it, and one that begins later. The second has most of what its sub-band may have in an hour. Beside them one was cancelled.

pub first : Reservation
unfolding airtime_of band_of
first = record { number = 1; start = 0; freq_hz = 868100000; rate = Dr5; len = 12; fit = is_fit-IsFit (fast 1 0) refl }

pub second : Reservation
unfolding airtime_of band_of
second = record {
  number = 2;
  start = 10000000;
  freq_hz = 863500000;
  rate = Dr0;
  len = 60;
  fit = is_fit-IsFit (slow 2 10000000) refl;
}

pub third : Reservation
unfolding airtime_of band_of
third = record {
  number = 3;
  start = 3700000000;
  freq_hz = 868100000;
  rate = Dr5;
  len = 12;
  fit = is_fit-IsFit (fast 3 3700000000) refl;
}

-- what is booked after them
pub fourth : Reservation
unfolding airtime_of band_of
fourth = record {
  number = 4;
  start = 3700141216;
  freq_hz = 868100000;
  rate = Dr5;
  len = 12;
  fit = is_fit-IsFit (fast 4 3700141216) refl;
}

abbrev pub seen : State
seen = record { floor = 3600000001; list = first ∷ second ∷ third ∷ []; booked = 2753280; cancelled = 41216 }

abbrev pub rules : Rules
rules = record { cap = 3; gap = 100000 }

-- the first is forgotten, and the others are not
pub one_is_forgotten : forgetful seen ≡
    record { floor = 3600000001; list = second ∷ third ∷ []; booked = 2753280; cancelled = 41216 }
unfolding kept first second third
one_is_forgotten = refl

-- and so of a list in another order; what is kept stands by start
pub one_is_forgotten_in_any_order : kept (third ∷ first ∷ second ∷ []) 3600000001 ≡ second ∷ third ∷ []
unfolding kept first second third
one_is_forgotten_in_any_order = refl

-- Each command, with what is answered and what is kept.

pub duty_full_is_told : reply_to rules seen (Book (slow 4 3605000000)) ≡ Answered (Some (DutyFull K 10000000 2629632))
unfolding airtime_of band_of begun kept overlap full_hour first second third
duty_full_is_told = refl

pub taken_is_told : reply_to rules seen (Book (fast 4 3700141215)) ≡ Answered (Some (Taken 3700000000))
unfolding airtime_of band_of begun kept overlap full_hour first second third
taken_is_told = refl

-- the gap is kept before a member as it is after it
pub taken_before_a_member_is_told : reply_to rules seen (Book (fast 4 3699858785)) ≡ Answered (Some (Taken 3700000000))
unfolding airtime_of band_of begun kept overlap full_hour first second third
taken_before_a_member_is_told = refl

pub accepted_before_a_member_is_told : reply_to rules seen (Book (fast 4 3699858784)) ≡ Answered None
unfolding airtime_of band_of begun kept overlap full_hour first second third
accepted_before_a_member_is_told = refl

pub passed_is_told : reply_to rules seen (Book (fast 4 3600000000)) ≡ Answered (Some Passed)
unfolding airtime_of band_of begun kept overlap full_hour first second third
passed_is_told = refl

pub refused_changes_nothing : after_command rules seen (Book (fast 4 3700141215)) ≡ seen
unfolding airtime_of band_of begun kept overlap full_hour first second third
refused_changes_nothing = refl

pub accepted_is_told : reply_to rules seen (Book (fast 4 3700141216)) ≡ Answered None
unfolding airtime_of band_of begun kept overlap full_hour first second third
accepted_is_told = refl

pub accepted_joins : after_command rules seen (Book (fast 4 3700141216)) ≡
    record { floor = 3600000001; list = first ∷ second ∷ third ∷ fourth ∷ []; booked = 2794496; cancelled = 41216 }
unfolding airtime_of band_of begun kept overlap full_hour first second third fourth
accepted_joins = refl

-- with the fourth it keeps as many as it may
abbrev filled : State
filled = record { floor = 3600000001; list = first ∷ second ∷ third ∷ fourth ∷ []; booked = 2794496; cancelled = 41216 }

pub full_is_told : reply_to rules filled (Book (fast 5 3900000000)) ≡ Answered (Some Full)
unfolding airtime_of band_of begun kept overlap full_hour first second third fourth
full_is_told = refl

pub full_changes_nothing : after_command rules filled (Book (fast 5 3900000000)) ≡ filled
unfolding airtime_of band_of begun kept overlap full_hour first second third fourth
full_changes_nothing = refl

-- one microsecond more has been booked than leaves room for another in the greatest total
abbrev spent_up : State
spent_up = record { floor = 0; list = []; booked = 2 ^ 62 - 41215; cancelled = 2 ^ 62 - 41215 }

pub totals_full_is_told : reply_to rules spent_up (Book (fast 5 3900000000)) ≡ Answered (Some TotalsFull)
unfolding airtime_of band_of begun kept overlap full_hour
totals_full_is_told = refl

pub totals_full_changes_nothing : after_command rules spent_up (Book (fast 5 3900000000)) ≡ spent_up
unfolding airtime_of band_of begun kept overlap full_hour
totals_full_changes_nothing = refl

pub taken_out_is_told : reply_to rules seen (Cancel 3 3700000000) ≡ TakenOut (Ok third)
unfolding first second third
taken_out_is_told = refl

pub taken_out_is_gone : after_command rules seen (Cancel 3 3700000000) ≡
    record { floor = 3600000001; list = first ∷ second ∷ []; booked = 2753280; cancelled = 82432 }
unfolding airtime_of first second third
taken_out_is_gone = refl

pub begun_is_told : reply_to rules seen (Cancel 2 10000000) ≡ TakenOut (Err Begun)
begun_is_told = refl

pub begun_stays : after_command rules seen (Cancel 2 10000000) ≡ seen
begun_stays = refl

pub absence_is_told : reply_to rules seen (Cancel 4 3700000000) ≡ TakenOut (Err NotHere)
unfolding first second third
absence_is_told = refl

pub floor_is_told : reply_to rules seen (Tick 3610000001) ≡ Floor 3610000001
floor_is_told = refl

pub floor_rises : after_command rules seen (Tick 3610000001) ≡
    record { floor = 3610000001; list = first ∷ second ∷ third ∷ []; booked = 2753280; cancelled = 41216 }
floor_rises = refl

pub floor_never_falls : reply_to rules seen (Tick 5) ≡ Floor 3600000001
floor_never_falls = refl

-- after that tick the second is forgotten too
pub two_are_forgotten : (forgetful (after_command rules seen (Tick 3610000001))).list ≡ third ∷ []
unfolding kept first second third
two_are_forgotten = refl

-- One list of them, with what a gateway answers.

abbrev told : List Command
told =
    Book (slow 4 3605000000)
    ∷ Book (fast 4 3600000000)
    ∷ Book (fast 4 3700141215)
    ∷ Book (fast 4 3700141216)
    ∷ Book (fast 5 3700000000)
    ∷ Book (fast 5 3900000000)
    ∷ Cancel 2 10000000
    ∷ Cancel 3 3700000000
    ∷ Cancel 3 3700000000
    ∷ Tick 3610000001
    ∷ Tick 5
    ∷ Book (slow 6 3611000000)
    ∷ []

abbrev answers : List Reply
answers =
    Answered (Some (DutyFull K 10000000 2629632))
    ∷ Answered (Some Passed)
    ∷ Answered (Some (Taken 3700000000))
    ∷ Answered None
    ∷ Answered (Some (Taken 3700000000))
    ∷ Answered (Some Full)
    ∷ TakenOut (Err Begun)
    ∷ TakenOut (Ok third)
    ∷ TakenOut (Err NotHere)
    ∷ Floor 3610000001
    ∷ Floor 3610000001
    ∷ Answered None
    ∷ []

pub all_is_answered : replies rules seen told ≡ answers
unfolding airtime_of band_of begun kept overlap full_hour first second third
all_is_answered = refl

pub forgetting_answers_the_same : forgetful_replies rules (forgetful seen) told ≡ answers
unfolding airtime_of band_of begun kept overlap full_hour first second third
forgetting_answers_the_same = refl

-- a gap of more than an hour, which no gateway has, would be a difference: after the tick the first is forgotten
abbrev wide : Rules
wide = record { cap = 3; gap = 3600000000 }

abbrev hourly : List Command
hourly = Tick 3600000001 ∷ Book (fast 4 3600000001) ∷ []

abbrev alone : State
alone = record { floor = 0; list = first ∷ []; booked = 41216; cancelled = 0 }

pub remembered : replies wide alone hourly ≡ Floor 3600000001 ∷ Answered (Some (Taken 0)) ∷ []
unfolding airtime_of band_of begun kept overlap full_hour first
remembered = refl

pub forgotten : forgetful_replies wide alone hourly ≡ Floor 3600000001 ∷ Answered None ∷ []
unfolding airtime_of band_of begun kept overlap full_hour first
forgotten = refl

-- The premise of the law at that gateway.

start_is : (a b : Reservation) → Some a ≡ Some b → a.start ≡ b.start
start_is a b same = ap (λ (r : Reservation). r.start) (same_Some a b same)

-- members at different places have starts of their own
own_starts : HaveOwnStarts seen.list
unfolding first second third
own_starts zero zero r s a b differ = absurd (differ refl)
own_starts zero (suc zero) r s a b differ = λ e. absurd (omega (arith, e, start_is first r a, start_is second s b))
own_starts zero (suc (suc zero)) r s a b differ = λ e. absurd (omega (arith, e, start_is first r a, start_is third s b))
own_starts (suc zero) zero r s a b differ = λ e. absurd (omega (arith, e, start_is second r a, start_is first s b))
own_starts (suc zero) (suc zero) r s a b differ = absurd (differ refl)
own_starts (suc zero) (suc (suc zero)) r s a b differ = λ e. absurd (omega (arith, e, start_is second r a, start_is third s b))
own_starts (suc (suc zero)) zero r s a b differ = λ e. absurd (omega (arith, e, start_is third r a, start_is first s b))
own_starts (suc (suc zero)) (suc zero) r s a b differ = λ e. absurd (omega (arith, e, start_is third r a, start_is second s b))
own_starts (suc (suc zero)) (suc (suc zero)) r s a b differ = absurd (differ refl)
own_starts zero (suc (suc (suc j))) r s a b differ = absurd (cc)
own_starts (suc zero) (suc (suc (suc j))) r s a b differ = absurd (cc)
own_starts (suc (suc zero)) (suc (suc (suc j))) r s a b differ = absurd (cc)
own_starts (suc (suc (suc i))) j r s a b differ = absurd (cc)

-- What is answered and kept, for every gateway.

module _ (rules : Rules) (s : State) where
  pub each_is_forgetful : forgetful s ≡
      record { floor = s.floor; list = kept s.list s.floor; booked = s.booked; cancelled = s.cancelled }
  each_is_forgetful = refl

  pub each_ask_is_answered : (ask : Ask) → reply_to rules s (Book ask) ≡
      Answered (refusal_of (record { floor = s.floor; rules = rules; booked = s.booked }) s.list ask)
  each_ask_is_answered ask = refl

  pub each_ask_is_followed : (ask : Ask) → after_command rules s (Book ask) ≡
      after_answer (refusal_of (record { floor = s.floor; rules = rules; booked = s.booked }) s.list ask) s ask
  each_ask_is_followed ask = refl

  pub each_accepted_joins : (ask : Ask) → after_answer None s ask ≡
      record {
        floor = s.floor;
        list = placed (reservation_of ask) s.list;
        booked = s.booked + airtime_of ask.rate ask.len;
        cancelled = s.cancelled;
      }
  each_accepted_joins ask = refl

  pub each_refused_changes_nothing : (refusal : Refusal) (ask : Ask) → after_answer (Some refusal) s ask ≡ s
  each_refused_changes_nothing refusal ask = refl

  pub each_cancel_is_answered : (number start : ℕ) →
      reply_to rules s (Cancel number start) ≡ TakenOut (cancel_answer s.floor s.list number start)
  each_cancel_is_answered number start = refl

  pub each_cancel_is_followed : (number start : ℕ) →
      after_command rules s (Cancel number start) ≡ after_cancel (cancel_answer s.floor s.list number start) s number start
  each_cancel_is_followed number start = refl

  pub each_taken_out_is_gone : (r : Reservation) (number start : ℕ) → after_cancel (Ok r) s number start ≡
      record {
        floor = s.floor;
        list = without_named s.list number start;
        booked = s.booked;
        cancelled = s.cancelled + airtime_of r.rate r.len;
      }
  each_taken_out_is_gone r number start = refl

  pub each_tick_is_answered : (now : ℕ) → reply_to rules s (Tick now) ≡ Floor (max s.floor now)
  each_tick_is_answered now = refl

  pub each_tick_is_followed : (now : ℕ) → after_command rules s (Tick now) ≡
      record { floor = max s.floor now; list = s.list; booked = s.booked; cancelled = s.cancelled }
  each_tick_is_followed now = refl

  -- a list of commands has a reply to each, in turn
  pub each_has_its_reply : (c : Command) (cs : List Command) →
      replies rules s (c ∷ cs) ≡ reply_to rules s c ∷ replies rules (after_command rules s c) cs
  each_has_its_reply c cs = refl

  pub each_has_its_reply_where_it_forgets : (c : Command) (cs : List Command) → forgetful_replies rules s (c ∷ cs) ≡
      reply_to rules s c ∷ forgetful_replies rules (forgetful (after_command rules s c)) cs
  each_has_its_reply_where_it_forgets c cs = refl

pub each_within_the_hour_is_kept : (l : List Reservation) (floor : ℕ) →
    kept l floor ≡ by_start (filter (λ r. nat_le floor (r.start + 3600000000)) l)
unfolding kept
each_within_the_hour_is_kept l floor = refl

-- A book beside a state that forgets nothing: it has that state's floor and totals, and keeps what is kept of its list.

module _ (b : GatewaysBook) (s : State) where
  pub each_remembers : Remembers b s
      → (b.floor ≡ s.floor) × (b.list ≡ kept s.list s.floor) × (b.booked ≡ s.booked) × (b.cancelled ≡ s.cancelled)
  each_remembers r = (r.floor, r.list, r.booked, r.cancelled)

  pub each_stands_for : StandsFor b s
      → (b.rules.gap ≤ 100000) × IsByStart s.list × IsLawful b.rules.gap s.list × (s.booked ≡ s.cancelled + net s.list)
      × Remembers b s
  each_stands_for h = (h.orderly.rested, h.orderly.by_start, h.orderly.lawful, h.balanced, h.remembers)

  -- and nothing else is asked of them
  pub each_such_stands_for : b.rules.gap ≤ 100000 → IsByStart s.list → IsLawful b.rules.gap s.list
      → s.booked ≡ s.cancelled + net s.list → b.floor ≡ s.floor → b.list ≡ kept s.list s.floor → b.booked ≡ s.booked
      → b.cancelled ≡ s.cancelled → StandsFor b s
  each_such_stands_for narrow rising law_kept balances floor list booked cancelled =
      record {
        orderly = record { rested = narrow; by_start = rising; lawful = law_kept };
        balanced = balances;
        remembers = record { floor = floor; list = list; booked = booked; cancelled = cancelled };
      }

-- what is booked has the asked fields
pub each_is_as_asked : (ask : Ask) (r : Reservation) → IsAsked ask r
    → (r.number ≡ ask.number) × (r.start ≡ ask.start) × (r.freq_hz ≡ ask.freq_hz) × (r.rate ≡ ask.rate) × (r.len ≡ ask.len)
each_is_as_asked ask r h = (h.number, h.start, h.freq_hz, h.rate, h.len)

-- The law, for every gap that a gateway may have, and every list whose members have starts of their own.

module _ (law : ForgettingIsUnseen) (rules : Rules) (s : State) (narrow : rules.gap ≤ 100000)
    (own : (i j : ℕ) (r t : Reservation) → slice_get s.list i ≡ Some r → slice_get s.list j ≡ Some t → i ≢ j → r.start ≢ t.start)
  where
    pub same_reply : (c : Command) → reply_to rules (forgetful s) c ≡ reply_to rules s c
    same_reply = (law rules s narrow own).reply

    pub same_after : (c : Command) → forgetful (after_command rules (forgetful s) c) ≡ forgetful (after_command rules s c)
    same_after = (law rules s narrow own).after

    pub same_replies : (cs : List Command) → forgetful_replies rules (forgetful s) cs ≡ replies rules s cs
    same_replies = (law rules s narrow own).replies

    pub stays_lawful : (c : Command) → IsLawful rules.gap s.list → IsLawful rules.gap (after_command rules s c).list
    stays_lawful = (law rules s narrow own).lawful

-- and so of the one above
pub same_reply_of_it : ForgettingIsUnseen → (c : Command) → reply_to rules (forgetful seen) c ≡ reply_to rules seen c
same_reply_of_it law = same_reply law rules seen (omega arith) own_starts
