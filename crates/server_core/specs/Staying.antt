use Rattle.std.specs.Prelude.{ℕ, ◌≡◌, ◌≢◌, ◌==◌, Bool, false, List, [], slice_get, Option, Some, None, Result}
use Rattle.std.specs.Option.{option_map}
use Rattle.gateway_book.specs.declared.cancel.CancelFault.{CancelFault}
use Rattle.gateway_book.specs.Book.{Book}
use Rattle.uplink_gather.specs.declared.limits.Limits.{Limits}
use Rattle.answer_ticket.specs.declared.outcome.Outcome.{Outcome}
use Rattle.answer_ticket.specs.Ticket.{Standing}
use Rattle.server_desk.specs.declared.setting.GatewaySetting.{GatewaySetting}
use Rattle.server_desk.specs.declared.answers.Sent.{Sent}
use Rattle.server_desk.specs.Settings.{SettingLists, AreSettings}
use Rattle.server_desk.specs.World.{World, opening, rules_of}
use Rattle.server_core.specs.Steps.{Step, Settle, Try, Cancel, Tick, step, run}
use Rattle.server_core.specs.BookCalls.{IsBookAt, IsTicketIn, IsStubIn, IsCancel, next_at, sent_at}

-- What is out stays that of the world through the steps of others: so calls in any order, each of which is a step where its
-- ticket, stub or book is the world's, are the steps of one run.

-- the book of a gateway that has booked nothing
abbrev pub unused_book : GatewaySetting → Book
unused_book g = record {
  id = g.id;
  rules = rules_of g;
  floor = 0;
  list = [];
  booked = 0;
  cancelled = 0;
  retired = 0;
}

-- the step tries or settles the answer of number n
abbrev pub spends : ℕ → Step → Bool
spends n (Try m) = m == n
spends n (Settle m) = m == n
spends n s = false

-- the gateway whose book the step asks for, if it does
abbrev pub gateway_asked : World → Step → Option ℕ
gateway_asked w (Try n) = option_map (λ c. c.gateway) (next_at w n)
gateway_asked w (Cancel n) = option_map (λ s. s.gateway) (sent_at w n)
gateway_asked w (Tick id now) = Some id
gateway_asked w s = None

-- the law: what is held of the system, a book, a ticket or a stub, stays what it is through the steps of others
pub record OthersLeaveAlone : Type 0 where
  -- before the first step each gateway's book is the world's
  pub opened : (settings : SettingLists) → AreSettings settings.gateways settings.devices → (limits : Limits) (at : ℕ)
      (g : GatewaySetting) → slice_get settings.gateways at ≡ Some g
      → IsBookAt g.id at (opening settings limits).gateways (unused_book g)
  -- a ticket or stub is that of its answer until it is tried or settled itself
  pub ticket : (w : World) (s : Step) (t : Standing) → IsTicketIn w t → spends t.job.number s ≡ false → IsTicketIn (step w s).0 t
  pub stub : (w : World) (s : Step) (stub : Outcome) → IsStubIn w stub → spends stub.number s ≡ false → IsStubIn (step w s).0 stub
  -- and a book its gateway's until a step asks for it
  pub book : (w : World) (s : Step) (id at : ℕ) (book : Book) → IsBookAt id at w.gateways book → gateway_asked w s ≢ Some id
      → IsBookAt id at (step w s).0.gateways book
  -- after every list of steps, a cancel of another transmission than what is booked for the number there changes nothing
  pub cancel : (settings : SettingLists) → AreSettings settings.gateways settings.devices → (limits : Limits) (steps : List Step)
      (n start id at : ℕ) (old new : Book) (result : Result ℕ CancelFault)
      → IsBookAt id at (run settings limits steps).world.gateways old → IsCancel n start old new result
      → ((sent : Sent) → sent_at (run settings limits steps).world n ≡ Some sent → sent.gateway ≡ id → sent.start ≢ start)
      → new ≡ old
