-- What the law on what stays through the steps of others says of every world, step by step.
use Rattle.std.specs.Prelude.{ℕ, ◌≡◌, ◌≢◌, ◌==◌, IsTrue, List, [], slice_get, Option, Some, None, Result, false, refl, ⊤}
use Rattle.std.specs.Option.{option_and_then, option_map}
use Rattle.std.proofs.Common.{ap, sym, ◌∙◌}
use Rattle.std.proofs.lemmas.Option.{same_Some}
use Rattle.gateway_book.specs.declared.cancel.CancelFault.{CancelFault}
use Rattle.gateway_book.specs.Book.{Book}
use Rattle.uplink_gather.specs.declared.limits.Limits.{Limits}
use Rattle.uplink_gather.specs.Gatherings.{numbered}
use Rattle.rx_windows.specs.declared.candidate.Candidate.{Candidate}
use Rattle.answer_ticket.specs.declared.outcome.Outcome.{Outcome}
use Rattle.answer_ticket.specs.Ticket.{Standing}
use Rattle.server_desk.specs.declared.setting.GatewaySetting.{GatewaySetting}
use Rattle.server_desk.specs.declared.answers.Sent.{Sent}
use Rattle.server_desk.specs.Answers.{Open}
use Rattle.server_desk.specs.Settings.{SettingLists, AreSettings}
use Rattle.server_desk.specs.Settling.{is_here}
use Rattle.server_desk.specs.World.{World, ids, opening}
use Rattle.server_core.specs.Steps.{Step, Queue, Hear, Pass, Take, Settle, Try, Cancel, Tick, ending_of, step, run}
use Rattle.server_core.specs.BookCalls.{IsBookAt, IsCancel, IsStubIn, next_at, sent_at}
use Rattle.server_core.specs.Staying.{OthersLeaveAlone}

-- the step tries and settles no answer of number n
abbrev IsOther : ℕ → Step → Type 0
IsOther n (Try m) = (m == n) ≡ false
IsOther n (Settle m) = (m == n) ≡ false
IsOther n s = ⊤

-- the step asks for no book of the gateway
abbrev IsElsewhere : ℕ → World → Step → Type 0
IsElsewhere id w (Try n) = next_at w n ≡ None
IsElsewhere id w (Cancel n) = (sent : Sent) → sent_at w n ≡ Some sent → sent.gateway ≢ id
IsElsewhere id w (Tick other now) = other ≢ id
IsElsewhere id w s = ⊤

module _ (law : OthersLeaveAlone) where
  pub each_opened : (settings : SettingLists) → AreSettings settings.gateways settings.devices → (limits : Limits) (at : ℕ)
      (g : GatewaySetting) → slice_get settings.gateways at ≡ Some g
      → IsBookAt g.id at (opening settings limits).gateways (record {
        id = g.id;
        rules = record { cap = g.cap; gap = g.gap };
        floor = 0;
        list = [];
        booked = 0;
        cancelled = 0;
        retired = 0;
      })
  each_opened = law.opened

  module _ (w : World) (t : Standing) (stands : numbered t.job.number w.answers ≡ Some (Open t.at t.job)) where
    abbrev TicketStays : Step → Type 0
    TicketStays s = numbered t.job.number (step w s).0.answers ≡ Some (Open t.at t.job)

    pub each_ticket_stays : (s : Step) → IsOther t.job.number s → TicketStays s
    each_ticket_stays (Queue addr payload) o = law.ticket w (Queue addr payload) t stands refl
    each_ticket_stays (Hear bytes heard arrived) o = law.ticket w (Hear bytes heard arrived) t stands refl
    each_ticket_stays (Pass now) o = law.ticket w (Pass now) t stands refl
    each_ticket_stays (Take m) o = law.ticket w (Take m) t stands refl
    each_ticket_stays (Settle m) o = law.ticket w (Settle m) t stands o
    each_ticket_stays (Try m) o = law.ticket w (Try m) t stands o
    each_ticket_stays (Cancel m) o = law.ticket w (Cancel m) t stands refl
    each_ticket_stays (Tick id now) o = law.ticket w (Tick id now) t stands refl

  module _ (w : World) (stub : Outcome) (told : option_and_then ending_of (numbered stub.number w.answers) ≡ Some stub.result)
      (here : IsTrue (is_here (ids w) stub.result)) where
    abbrev StubStays : Step → Type 0
    StubStays s = (option_and_then ending_of (numbered stub.number (step w s).0.answers) ≡ Some stub.result)
        × IsTrue (is_here (ids (step w s).0) stub.result)

    stays_by : (s : Step) → IsStubIn (step w s).0 stub → StubStays s
    stays_by s h = (h.told, h.here)

    pub each_stub_stays : (s : Step) → IsOther stub.number s → StubStays s
    each_stub_stays (Queue addr payload) o =
        stays_by (Queue addr payload) (law.stub w (Queue addr payload) stub (record { told = told; here = here }) refl)
    each_stub_stays (Hear bytes heard arrived) o = stays_by (Hear bytes heard arrived)
        (law.stub w (Hear bytes heard arrived) stub (record { told = told; here = here }) refl)
    each_stub_stays (Pass now) o =
        stays_by (Pass now) (law.stub w (Pass now) stub (record { told = told; here = here }) refl)
    each_stub_stays (Take m) o = stays_by (Take m) (law.stub w (Take m) stub (record { told = told; here = here }) refl)
    each_stub_stays (Settle m) o = stays_by (Settle m) (law.stub w (Settle m) stub (record { told = told; here = here }) o)
    each_stub_stays (Try m) o = stays_by (Try m) (law.stub w (Try m) stub (record { told = told; here = here }) o)
    each_stub_stays (Cancel m) o = stays_by (Cancel m) (law.stub w (Cancel m) stub (record { told = told; here = here }) refl)
    each_stub_stays (Tick id now) o =
        stays_by (Tick id now) (law.stub w (Tick id now) stub (record { told = told; here = here }) refl)

  module _ (w : World) (id at : ℕ) (book : Book) (is : IsBookAt id at w.gateways book) where
    abbrev BookStays : Step → Type 0
    BookStays s = IsBookAt id at (step w s).0.gateways book

    cancels_elsewhere : (n : ℕ) (o : Option Sent) → ((sent : Sent) → o ≡ Some sent → sent.gateway ≢ id)
        → option_map (λ s. s.gateway) o ≢ Some id
    cancels_elsewhere n None d e = absurd (cc (e))
    cancels_elsewhere n (Some sent) d e = d sent refl (same_Some _ _ e)

    pub each_book_stays : (s : Step) → IsElsewhere id w s → BookStays s
    each_book_stays (Queue addr payload) o = law.book w (Queue addr payload) id at book is (λ e. absurd (cc (e)))
    each_book_stays (Hear bytes heard arrived) o = law.book w (Hear bytes heard arrived) id at book is (λ e. absurd (cc (e)))
    each_book_stays (Pass now) o = law.book w (Pass now) id at book is (λ e. absurd (cc (e)))
    each_book_stays (Take m) o = law.book w (Take m) id at book is (λ e. absurd (cc (e)))
    each_book_stays (Settle m) o = law.book w (Settle m) id at book is (λ e. absurd (cc (e)))
    each_book_stays (Try m) none = law.book w (Try m) id at book is
        (λ e. absurd (cc (e, ap (λ o. option_map (λ c. c.gateway) o) none)))
    each_book_stays (Cancel m) o = law.book w (Cancel m) id at book is (cancels_elsewhere m (sent_at w m) o)
    each_book_stays (Tick other now) d = law.book w (Tick other now) id at book is (λ e. d (same_Some _ _ e))

    -- a try at another gateway
    pub each_try_leaves_others : (n : ℕ) (c : Candidate) → next_at w n ≡ Some c → c.gateway ≢ id → BookStays (Try n)
    each_try_leaves_others n c e d = law.book w (Try n) id at book is
        (λ f. d (same_Some _ _ (sym (ap (option_map (λ (c : Candidate). c.gateway)) e) ∙ f)))

  pub each_other_cancel_changes_nothing : (settings : SettingLists) → AreSettings settings.gateways settings.devices
      → (limits : Limits) (steps : List Step) (n start id at : ℕ) (old new : Book) (result : Result ℕ CancelFault)
      → IsBookAt id at (run settings limits steps).world.gateways old → IsCancel n start old new result
      → ((sent : Sent) → sent_at (run settings limits steps).world n ≡ Some sent → sent.gateway ≡ id → sent.start ≢ start)
      → new ≡ old
  each_other_cancel_changes_nothing = law.cancel
