use Rattle.std.specs.Prelude.{ℕ, Bool, true, false, ◌&&◌, if◌then◌else◌, List, drop, slice_get, slice_set, Option, Some}
use Rattle.std.specs.Prelude.{None}
use Rattle.std.specs.Option.{option_map_or}
use Rattle.uplink_gather.specs.Gatherings.{numbered, rewritten}
use Rattle.answer_ticket.specs.declared.outcome.Ending.{Ending}
use Rattle.answer_ticket.specs.declared.outcome.Ending.TheVariants.{Answered, Unanswered, GivenUp}
use Rattle.server_desk.specs.Answers.{Known, NotGiven, Pending, Done, Sent, is_given}
use Rattle.server_desk.specs.Register.{is_among, Device, Asked, Register}

-- An answer is settled (this project's profile).

-- what a settled answer keeps
abbrev pub sent_of : Ending → Option Sent
sent_of (Answered gateway window start airtime carried) = Some (record { gateway = gateway; start = start; airtime = airtime })
sent_of (Unanswered refusal) = None
sent_of GivenUp = None

-- whether it took the head of the queue with it
abbrev pub has_carried : Ending → Bool
has_carried (Answered gateway window start airtime carried) = carried
has_carried (Unanswered refusal) = false
has_carried GivenUp = false

-- an answer is on no gateway, or on one with one of these ids
abbrev pub is_here : List ℕ → Ending → Bool
is_here ids (Answered gateway window start airtime carried) = is_among ids gateway
is_here ids (Unanswered refusal) = true
is_here ids GivenUp = true

-- whether an answer that ended so may be settled: its number is out, and its gateway is one of these
abbrev pub may_settle : List ℕ → List Known → ℕ → Ending → Bool
may_settle ids known n ending = option_map_or is_given (numbered n known) false && is_here ids ending

-- the device without the payload that was sent
abbrev pub without_head : Device → Device
without_head device = record device { queue = drop 1 device.queue }

abbrev pub head_taken : ℕ → Option Device → List Device → List Device
head_taken place None devices = devices
head_taken place (Some device) devices = slice_set devices place (without_head device)

abbrev pub delivered : Option Asked → Register → Register
delivered None reg = reg
delivered (Some asked) reg =
    record reg { devices = head_taken asked.device (slice_get reg.devices asked.device) reg.devices }

-- what the server knows then: a booked frame that carries takes the head off its device's queue
abbrev pub after_settling : Ending → ℕ → Register → Register
after_settling ending n reg = if has_carried ending then delivered (numbered n reg.asked) reg else reg

-- what the desk knows of answers then
abbrev pub known_settled : Ending → ℕ → List Known → List Known
known_settled ending n known = rewritten (λ k. Done (sent_of ending)) n known

-- what a settled answer keeps; None for any other
abbrev pub kept_by : Option Known → Option Sent
kept_by None = None
kept_by (Some NotGiven) = None
kept_by (Some Pending) = None
kept_by (Some (Done sent)) = sent
