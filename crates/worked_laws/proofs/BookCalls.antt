-- What the laws of the calls of a ticket and of a book say of the worked run: each clause tells a fact.
use Rattle.server_core.proofs.Words
use Words.{ap, arith, None, Some, [], Ok, Err, refl, ◌≡◌, ◌∷◌, List, slice_set, same_Some, desk_of, Done, DeskView, Settle, step}
use Words.{Reservation, Try, Cancel, Tick, opening, Standing, Outcome, GatewaySetting, NotHere, ticked, with_booked, Book}
use Words.{CancelFault, Result, Sent, ℕ, Step, Reply, Answer, World, told, orderly_nil, IsOrderly}
use Rattle.worked_laws.proofs.Inputs.{settings, limits, gateway_at, unused, sent_at, ended_at, rx1}
use Rattle.worked_laws.proofs.Steps.{job_1, job_2, job_3, gateway_1, w3, w4, w5, w6, w11, w15, w16, w17, w18, w19}
use Rattle.worked_laws.proofs.Steps.{cancelled_19, made, steps, whole_run}
use Rattle.worked_laws.proofs.Promise.{are, safe_run, first_held, second_held}
use Rattle.radio_airtime.specs.TimeOnAir.{airtime_of}
use Rattle.radio_bands.specs.Band.{band_of}
use Rattle.resv_list.specs.Reservations.{begun}
use Rattle.gateway_book.specs.declared.refusal.Refusal.TheVariants.{Taken, Passed}
use Rattle.gateway_book.specs.{Answer.overlap, Book.with_cancelled, Kept.kept, Duty.full_hour}
use Rattle.rx_windows.specs.{Windows.candidates_of, declared.candidate.Candidate.Candidate}
use Rattle.answer_ticket.specs.declared.outcome.Ending.TheVariants.{GivenUp, Unanswered}
use Rattle.answer_ticket.specs.{declared.tried.Receipt.Receipt, Job.Job, Job.frame_for, Tried.TriedIs, Tried.next_of}
use Rattle.server_desk.specs.Desk.{desk_settle}
use Rattle.server_core.specs.BookCalls.{IsBookAt, IsStepAt, IsTicketIn, IsStubIn, IsCancel, LeavesStub, LeavesTicket}
use Rattle.server_core.specs.BookCalls.{BookCallsAreSteps}
use Rattle.server_core.specs.Staying.{unused_book, OthersLeaveAlone}
use Rattle.answer_ticket.specs.declared.tried.Tried.TheVariants as tried
use Rattle.server_core.specs.Steps as replies

-- The worked books.

-- the first gateway's book after the run
abbrev first_book : Book
first_book = record {
  id = 1;
  rules = record { cap = 4096; gap = 0 };
  floor = 0;
  list = gateway_1.state.list;
  booked = gateway_1.state.booked;
  cancelled = 0;
  retired = 0;
}

first_kept : IsBookAt 1 0 w18.gateways first_book
unfolding kept airtime_of band_of overlap full_hour begun
first_kept =
    let orderly : IsOrderly 0 gateway_1.state.list = record {
      rested = omega arith;
      by_start = (omega arith, tt);
      lawful = safe_run.lawful 0 gateway_1 refl;
    } in
    record { gateway = gateway_1; found = refl; keeps = assumption orderly }

-- the receipt of a candidate that a book reserved
abbrev receipt_of : {A : Type 0} → Job → Candidate → Reservation → Receipt A
receipt_of job c r = record {
  number = job.number;
  gateway = c.gateway;
  window = c.window;
  reservation = r;
  frame = frame_for job c;
}

abbrev first_gateway : GatewaySetting
first_gateway = record { id = 1; cap = 4096; gap = 0 }

abbrev second_gateway : GatewaySetting
second_gateway = record { id = 2; cap = 4096; gap = 0 }

abbrev first_ticket : Standing
first_ticket = record { job = job_1; at = 0 }

abbrev third_ticket : Standing
third_ticket = record { job = job_3; at = 0 }

abbrev first_stub : Outcome
first_stub = record { number = 1; result = ended_at 1 6000000 }

-- what the books are after a booking there
abbrev with_first : Book
with_first = with_booked (unused_book first_gateway) first_held.member

abbrev with_second : Book
with_second = with_booked (unused_book second_gateway) second_held.member

module _ {A : Type 0} (calls : BookCallsAreSteps A) (alone : OthersLeaveAlone) where
  stands : IsTicketIn w4 first_ticket
  stands = rw (made 4) at (calls.taken w3 1 job_1 (rw (made 4) refl))

  still_stands : IsTicketIn (step w4 (Try 2)).0 first_ticket
  still_stands = alone.ticket w4 (Try 2) first_ticket stands refl

  abbrev given_up : Outcome
  given_up = record { number = 1; result = GivenUp }

  still_out : IsStubIn (step w4 (Tick 2 7)).0 given_up
  still_out = alone.stub w4 (Tick 2 7) given_up (calls.give_up w4 first_ticket stands) refl

  settled : desk_of (step w4 (Settle 1)).0 ≡ (let d : DeskView = record (desk_of w4) { known = Done None ∷ [] } in d)
  settled = (calls.settle w4 given_up (calls.give_up w4 first_ticket stands)).desk

  -- the first gateway's book, before the first step and after a tick at the other gateway
  opened : IsBookAt 1 0 (opening settings limits).gateways (unused_book first_gateway)
  opened = alone.opened settings are limits 0 first_gateway refl

  still_kept : IsBookAt 1 0 (step (opening settings limits) (Tick 2 7)).0.gateways (unused_book first_gateway)
  still_kept = alone.book (opening settings limits) (Tick 2 7) 1 0 (unused_book first_gateway) opened
      (λ e. absurd (omega (arith, same_Some _ _ e)))

-- after the first was taken out again
abbrev without_first : Book
without_first = with_cancelled first_book 1 6000000 41216

-- the world without any gateway
abbrev bookless : World → World
bookless w = record w { gateways = [] }

-- the book that a step leaves is the world's
book_left : (w : World) (s : Step) (id at : ℕ) (answers : List Answer) (book : Book) (reply : Reply)
    → IsStepAt w s id at answers book reply → IsBookAt id at (step w s).0.gateways book
book_left w s id at answers book reply is =
    rw is.after (let b : IsBookAt id at (slice_set w.gateways at is.gateway) book =
    record { gateway = is.gateway; found = is.found; keeps = is.keeps } in b)

-- A try is the step: booked on the first gateway, and refused and booked on the second.
module _ {A : Type 0} (calls : BookCallsAreSteps A) (alone : OthersLeaveAlone) where
  first_tried : TriedIs {A = A} first_ticket (unused_book first_gateway) with_first
      (tried.Booked first_stub (receipt_of job_1 (rx1 1 6000000) first_held.member))
  unfolding candidates_of airtime_of band_of overlap full_hour kept begun
  first_tried = assumption first_held.asked

  unused_first : IsBookAt 1 0 w4.gateways (unused_book first_gateway)
  unused_first = opened calls alone

  booked : LeavesStub w4 1 1 0 first_stub with_first None
  booked = calls.try_on w4 first_ticket 1 0 (unused_book first_gateway) with_first
      (tried.Booked first_stub (receipt_of job_1 (rx1 1 6000000) first_held.member)) (stands calls alone) unused_first first_tried

  says_booked : (step w4 (Try 1)).1 ≡ replies.Tried (Some None)
  says_booked = ap (λ a. a.1) booked.made.after

  its_stub : IsStubIn w5 first_stub
  its_stub = rw (made 5) at booked.stands

  stub_settled : desk_of w6 ≡ desk_settle (desk_of w5) 1 (ended_at 1 6000000)
  stub_settled = rw (made 6) at (calls.settle w5 first_stub its_stub).desk

  says_settled : (step w5 (Settle 1)).1 ≡ replies.Ended (Some (ended_at 1 6000000))
  says_settled = ap (λ a. a.1) (calls.settle w5 first_stub its_stub).after

  -- the second gateway's book after its first booking
  second_tried : TriedIs {A = A} (record { job = job_2; at = 1 }) (unused_book second_gateway) with_second
      (tried.Booked (record { number = 2; result = ended_at 2 10000000 }) (receipt_of job_2 (rx1 2 10000000) second_held.member))
  unfolding candidates_of airtime_of band_of overlap full_hour kept begun
  second_tried = assumption second_held.asked

  unused_second : IsBookAt 2 1 w11.gateways (unused_book second_gateway)
  unfolding kept
  unused_second = record { gateway = gateway_at 2 unused; found = refl; keeps = assumption (orderly_nil 0 (omega arith)) }

  second_booked : LeavesStub w11 2 2 1 (record { number = 2; result = ended_at 2 10000000 }) with_second None
  second_booked = calls.try_on w11 (record { job = job_2; at = 1 }) 2 1 (unused_book second_gateway) with_second
      (tried.Booked (record { number = 2; result = ended_at 2 10000000 }) (receipt_of job_2 (rx1 2 10000000) second_held.member))
      refl unused_second second_tried

  -- it is the world's: no step before the third ticket is tried asks for it
  second_kept : IsBookAt 2 1 w16.gateways with_second
  second_kept = rw (made 12) at (book_left w11 (Try 2) 2 1 _ with_second _ second_booked.made)

  -- it refuses the third uplink's RX1
  third_stands : IsTicketIn w16 third_ticket
  third_stands = rw (made 16) at (calls.taken w15 3 job_3 (rw (made 16) refl))

  third_tried : TriedIs {A = A} third_ticket with_second with_second (tried.Next (next_of third_ticket) (Taken 10000000))
  unfolding candidates_of airtime_of band_of overlap full_hour kept begun second_held
  third_tried = assumption

  refused : LeavesTicket w16 3 2 1 (next_of third_ticket) with_second (Some (Taken 10000000))
  refused = calls.try_on w16 third_ticket 2 1 with_second with_second (tried.Next (next_of third_ticket) (Taken 10000000))
      third_stands second_kept third_tried

  says_refused : (step w16 (Try 3)).1 ≡ replies.Tried (Some (Some (Taken 10000000)))
  says_refused = ap (λ a. a.1) refused.made.after

  goes_on : IsTicketIn w17 (next_of third_ticket)
  goes_on = rw (made 17) at refused.stands

  -- once the second gateway's floor is past RX2, the third uplink isn't answered
  abbrev late : Book
  late = ticked with_second 12000000

  late_step : IsStepAt w17 (Tick 2 12000000) 2 1 w17.answers late (replies.Ticked (Some 12000000))
  late_step = calls.tick w17 2 1 12000000 with_second late second_kept refl

  says_floor : (step w17 (Tick 2 12000000)).1 ≡ replies.Ticked (Some 12000000)
  says_floor = ap (λ a. a.1) late_step.after

  abbrev late_world : World
  late_world = (step w17 (Tick 2 12000000)).0

  late_tried : TriedIs {A = A} (next_of third_ticket) late late
      (tried.Out (record { number = 3; result = Unanswered Passed }) Passed)
  unfolding candidates_of airtime_of band_of overlap full_hour kept begun
  late_tried = assumption

  out : LeavesStub late_world 3 2 1 (record { number = 3; result = Unanswered Passed }) late (Some Passed)
  out = calls.try_on late_world (next_of third_ticket) 2 1 late late
      (tried.Out (record { number = 3; result = Unanswered Passed }) Passed)
      (alone.ticket w17 (Tick 2 12000000) (next_of third_ticket) goes_on refl)
      (book_left w17 (Tick 2 12000000) 2 1 w17.answers late _ late_step) late_tried

  ends_unanswered : told (step late_world (Try 3)).0 3 ≡ Some (Unanswered Passed)
  ends_unanswered = out.stands.told

  -- nothing is tried of an answer that waits, nor where no gateway has a book
  waits : step w3 (Try 1) ≡ (w3, replies.Tried None)
  waits = calls.try_nothing w3 1 refl

  nowhere : step (bookless w4) (Try 1) ≡ (bookless w4, replies.Tried None)
  unfolding candidates_of
  nowhere = calls.try_nowhere (bookless w4) 1 (rx1 1 6000000) refl refl

  -- what is booked is cancelled, and nothing else is
  first_cancelled : IsCancel 1 6000000 first_book without_first (Ok 41216)
  unfolding kept airtime_of band_of overlap full_hour begun
  first_cancelled = record { answer = refl; cancelled = refl; step = refl; refused = tt }

  cancels : IsStepAt w18 (Cancel 1) 1 0 w18.answers without_first (replies.Cancelled (Ok 41216))
  cancels = calls.cancel w18 1 0 (sent_at 1 6000000) first_book without_first (Ok 41216) refl first_kept first_cancelled

  says_cancelled : (step w18 (Cancel 1)).1 ≡ replies.Cancelled (Ok 41216)
  says_cancelled = ap (λ a. a.1) cancels.after

  nothing_left : IsBookAt 1 0 w19.gateways without_first
  nothing_left = rw cancelled_19 at (book_left w18 (Cancel 1) 1 0 w18.answers without_first _ cancels)

  cancels_nothing : step w17 (Cancel 3) ≡ (w17, replies.Cancelled (Err NotHere))
  cancels_nothing = calls.cancel_nothing w17 3 refl

  cancels_nowhere : step (bookless w18) (Cancel 1) ≡ (bookless w18, replies.Cancelled (Err NotHere))
  cancels_nowhere = calls.cancel_nowhere (bookless w18) 1 (sent_at 1 6000000) refl refl

  ticks_nowhere : step w18 (Tick 3 7) ≡ (w18, replies.Ticked None)
  ticks_nowhere = calls.tick_nowhere w18 3 7 refl

module _ (alone : OthersLeaveAlone) where
  not_cancelled : (new : Book) (result : Result ℕ CancelFault) → IsCancel 2 6000000 first_book new result → new ≡ first_book
  not_cancelled new result c =
      alone.cancel settings are limits steps 2 6000000 1 0 first_book new result (rw whole_run first_kept) c
      (rw whole_run (λ sent e here begins. omega (arith, begins, ap (λ (s : Sent). s.start) (same_Some _ _ e))))
