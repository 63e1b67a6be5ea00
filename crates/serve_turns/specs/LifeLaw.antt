use Rattle.std.specs.Prelude.{ℕ, ◌≡◌, ◌≢◌, ◌≤◌, ◌==◌, Bool, ◌&&◌, if◌then◌else◌, is_some, ⊤, List, [], ◌∷◌, map, AllPairs, Contains, Option}
use Rattle.resv_list.specs.declared.reservation.Reservation.{Reservation}
use Rattle.resv_list.specs.Reservations.{IsByStart}
use Rattle.gateway_book.specs.declared.ask.Ask.{Ask}
use Rattle.gateway_book.specs.Disjoint.{most_gap}
use Rattle.gateway_book.specs.Kept.{kept}
use Rattle.gateway_book.specs.Orderly.{IsOrderly}
use Rattle.gateway_book.specs.Step.{placed, reservation_of}
use Rattle.server_desk.specs.Passing.{pass_answer}
use Rattle.server_desk.specs.World.{Gateway, ids}
use Rattle.serve_journal.specs.RenewalLaw.{unnumbered}
use Rattle.serve_downlinks.specs.Downlinks.{ToSend}
use Rattle.serve_turns.specs.Control.{Arrival}
use Rattle.serve_turns.specs.Life.{Life}
use Rattle.serve_turns.specs.SendLaw.{pass_downlinks}
use Rattle.serve_turns.specs.Turn.{Answered, after_came, after_turn, without_text}

-- What gets into a gateway's journal over all lives of a server, each of which makes turn after turn, and may end at any moment.

-- a turn: what the server's clock shows, what comes and how far its batch gets, what the world around answers; and which of its
-- downlinks ever get into the journal, by their batch or in a whole one: if the life ends first, or the disk fails, some never do
pub record Turn : Type 0 where
  pub now : ℕ
  pub came : Option Arrival
  pub answered : Answered
  pub is_kept : ToSend → Bool

-- a server's life behind a turn
abbrev pub behind : (A : Type 0) → Turn → Life → Life
behind A t l = without_text (after_turn A t.now t.came t.answered l)

-- the downlinks that are booked in a turn: none where no uplink is due
abbrev pub turn_downlinks : (A : Type 0) → Turn → Life → List ToSend
turn_downlinks A t l =
    if is_some (pass_answer (after_came A t.now t.came l).world.reg t.now) then pass_downlinks A t.now t.came l else []

-- what a gateway's book was asked for, as a journal tells it: without a number
abbrev pub ask_of : ToSend → Ask
ask_of d =
    record {
      number = 0;
      start = d.candidate.start;
      freq_hz = d.candidate.freq_hz;
      rate = d.candidate.rate;
      len = d.candidate.len;
    }

-- a downlink is added to the journal of the gateway with a number, if it is this gateway's, and if it ever gets there
abbrev pub noted : (ToSend → Bool) → ℕ → ToSend → List Reservation → List Reservation
noted is_kept id d journal =
    if is_kept d && (d.candidate.gateway == id) then placed (reservation_of (ask_of d)) journal else journal

-- of some downlinks
abbrev pub all_noted : (ToSend → Bool) → ℕ → List ToSend → List Reservation → List Reservation
all_noted is_kept id [] journal = journal
all_noted is_kept id (d ∷ ds) journal = all_noted is_kept id ds (noted is_kept id d journal)

-- the journal of a gateway behind some turns
abbrev pub after_turns : (A : Type 0) → ℕ → List Turn → Life → List Reservation → List Reservation
after_turns A id [] l journal = journal
after_turns A id (t ∷ ts) l journal =
    after_turns A id ts (behind A t l) (all_noted t.is_kept id (turn_downlinks A t l) journal)

-- a life of a server: what it opens with, its turns, and the number that the gateway has in it
pub record ServedLife : Type 0 where
  pub opened : Life
  pub turns : List Turn
  pub id : ℕ

-- one gateway alone has this number; what its book keeps is, numbers of reservations aside, what its floor keeps of the journal; it stands
-- by start, nothing of it was cancelled, and its gap is no less than `gap`
pub record OpensOn (gap : ℕ) (journal : List Reservation) (life : ServedLife) : Type 0 where
  pub gateway : Gateway
  pub there : Contains life.opened.world.gateways gateway
  pub own : gateway.id ≡ life.id
  pub apart : AllPairs (λ m n. m ≢ n) (ids life.opened.world)
  pub wide : gap ≤ gateway.rules.gap
  pub rested : gateway.rules.gap ≤ most_gap
  pub by_start : IsByStart gateway.state.list
  pub keeps : kept (map unnumbered gateway.state.list) gateway.state.floor ≡ kept journal gateway.state.floor
  pub cancelled : gateway.state.cancelled ≡ 0

-- the journal of the gateway behind a life
abbrev pub after_life : (A : Type 0) → ServedLife → List Reservation → List Reservation
after_life A life journal = after_turns A life.id life.turns life.opened journal

-- each life opens on the journal of those before it
abbrev pub OpenInTurn : Type 0 → ℕ → List ServedLife → List Reservation → Type 0
OpenInTurn A gap [] journal = ⊤
OpenInTurn A gap (life ∷ lives) journal = OpensOn gap journal life × OpenInTurn A gap lives (after_life A life journal)

-- the journal behind all of them
abbrev pub after_served : (A : Type 0) → List ServedLife → List Reservation → List Reservation
after_served A [] journal = journal
after_served A (life ∷ lives) journal = after_served A lives (after_life A life journal)

-- the law: over every list of lives, each of which opens on the journal of those before, makes any turns and may end after any of them,
-- whatever comes and whatever the world around answers, and whichever of the downlinks get into the journal: all that ever got there is
-- what one gateway may send, disjoint, with a gap that no life's is below, and no hour of a sub-band over its limit
abbrev pub EveryServedLifeKeepsDuty : Type 0 → Type 0
EveryServedLifeKeepsDuty A =
    (gap : ℕ) (lives : List ServedLife) → gap ≤ most_gap → OpenInTurn A gap lives [] → IsOrderly gap (after_served A lives [])
