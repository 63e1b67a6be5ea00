-- What the law of the desk's calls says of the worked run: each clause tells a fact.
use Rattle.server_core.proofs.Words
use Words.{DeskCallsAreSteps, desk_of, desk_queue, desk_hear, desk_pass, desk_take, told, queue_answer, answer_to, decide}
use Words.{pass_answer, take_answer, answered_at, Queue, step, Tick, World, refl, ◌≡◌, [], ◌∷◌, Some, Ok, false}
use Rattle.worked_laws.proofs.Inputs.{copy_at, ended_at, device_at, first_device, second_device}
use Rattle.worked_laws.proofs.Steps.{second, w3, w5, w6, w7, w14, w15, w16, w17, w18, w19, job_3, made, cancelled_19}
use Rattle.worked_laws.proofs.Steps.{gateway_1, gateway_3}
use Rattle.radio_airtime.specs.TimeOnAir.{airtime_of}
use Rattle.radio_bands.specs.Band.{band_of}
use Rattle.resv_list.specs.Reservations.{begun}
use Rattle.gateway_book.specs.{Answer.overlap, Kept.kept, Duty.full_hour}
use Rattle.answer_ticket.specs.{Job.Payload, declared.outcome.Ending.TheVariants.GivenUp}
use Rattle.server_desk.specs.{Desk.desk_settle, declared.heard.DeskHeard.TheVariants.Opened}
use Rattle.server_core.specs.Steps as replies

abbrev waiting : Payload
waiting = (9, 1 ∷ [])

-- a payload waits for the second device
abbrev queued_world : World
queued_world = record w18 {
  reg = record (w18.reg) {
    devices = device_at first_device (Some 1) 2 ∷ record (device_at second_device (Some 0) 1) { queue = waiting ∷ [] } ∷ [];
  };
}

queued_19 : step w18 (Queue 0x26011bdb waiting) ≡ (queued_world, replies.Queued (Ok 1))
unfolding step
queued_19 = refl

-- the first gateway's floor was raised
abbrev ticked_world : World
ticked_world =
    record w18 { gateways = record gateway_1 { state = record (gateway_1.state) { floor = 7 } } ∷ gateway_3 ∷ [] }

ticked_19 : step w18 (Tick 1 7) ≡ (ticked_world, replies.Ticked (Some 7))
unfolding step airtime_of band_of overlap full_hour kept begun
ticked_19 = refl

-- what each clause tells of the run
record AreTold : Type 0 where
  queues : desk_of queued_world ≡ desk_queue (desk_of w18) 0x26011bdb waiting
  says_queued : replies.Queued (Ok 1) ≡ replies.Queued (queue_answer (desk_of w18).reg 0x26011bdb waiting)
  hears : desk_of w7 ≡ desk_hear (desk_of w6) second (copy_at 1 5000000 55) 300000
  says_heard : replies.Heard (Ok (Opened 2 false))
      ≡ replies.Heard (answer_to (decide (desk_of w6).ids (desk_of w6).reg second (copy_at 1 5000000 55) 300000) (desk_of w6).reg)
  passes : desk_of w15 ≡ desk_pass (desk_of w14) 800001
  says_passed : replies.Passed (Some 3) ≡ replies.Passed (pass_answer (desk_of w14).reg 800001)
  takes : desk_of w16 ≡ desk_take (desk_of w15) 3
  says_given : replies.Given (Ok job_3) ≡ replies.Given (take_answer (desk_of w15).reg (desk_of w15).known 3)
  settles : desk_of w6 ≡ desk_settle (desk_of w5) 1 (ended_at 1 6000000)
  says_settled : replies.Ended (Some (ended_at 1 6000000)) ≡ replies.Ended (told w5 1)
  -- the first answer waits, and takes no stub
  settles_none : desk_settle (desk_of w3) 1 GivenUp ≡ desk_of w3
  tries : desk_of w17 ≡ desk_of w16
  cancels : desk_of w19 ≡ desk_of w18
  ticks : desk_of ticked_world ≡ desk_of w18
  -- the first gateway was on air for the first answer
  is_answered : answered_at 1 (desk_of w18).known ≡ 41216

are_told : DeskCallsAreSteps → AreTold
are_told calls =
    record {
      queues = rw queued_19 at (calls.queue w18 0x26011bdb waiting);
      says_queued = rw queued_19 at (calls.queued w18 0x26011bdb waiting);
      hears = rw (made 7) at (calls.hear w6 second (copy_at 1 5000000 55) 300000);
      says_heard = rw (made 7) at (calls.heard w6 second (copy_at 1 5000000 55) 300000);
      passes = rw (made 15) at (calls.pass w14 800001);
      says_passed = rw (made 15) at (calls.passed w14 800001);
      takes = rw (made 16) at (calls.take w15 3);
      says_given = rw (made 16) at (calls.taken w15 3);
      settles = rw (made 6) at (calls.settle w5 1 (ended_at 1 6000000) refl refl);
      says_settled = rw (made 6) at (calls.settled w5 1);
      settles_none = (calls.settle_none w3 1 refl).1 GivenUp;
      tries = rw (made 17) at (calls.try w16 3);
      cancels = rw cancelled_19 at (calls.cancel w18 1);
      ticks = rw ticked_19 at (calls.tick w18 1 7);
      is_answered = calls.answered w18 1;
    }
