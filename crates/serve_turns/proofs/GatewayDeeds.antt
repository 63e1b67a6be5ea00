-- What the steps of turns do with one gateway's book is what a life does with it: it is asked, and its floor rises.
use Rattle.std.proofs.Common.{◌≡◌, ◌∙◌, ◌≤◌, ◌++◌, Bool, true, false, List, [], ◌∷◌, ℕ, Option, Some, None, Result, Ok, Err, ap, arith, inl, inr, map, cond, refl, subst, sym, true≢false}
use Rattle.std.specs.Prelude.{◌==◌, ◌≢◌, ◌&&◌, AllPairs, slice_get, slice_set}
use Rattle.std.proofs.lemmas.Bool.{eqb-true, eq-eqb}
use Rattle.std.proofs.lemmas.Option.{same_Some}
use Rattle.std.proofs.lemmas.Simd.{map-map}
use Rattle.resv_list.specs.declared.reservation.Reservation.{Reservation}
use Rattle.resv_list.specs.Reservations.{IsByStart, place, start_of}
use Rattle.resv_list.proofs.SortedLaws.{RisesFrom-place_by}
use Rattle.gateway_book.specs.declared.ask.Ask.{Ask}
use Rattle.gateway_book.specs.declared.refusal.Refusal.{Refusal}
use Rattle.gateway_book.specs.Answer.{Rules, refusal_of}
use Rattle.gateway_book.specs.Disjoint.{most_gap}
use Rattle.gateway_book.specs.Forgetting.{Answered, Book, IsUnseen, Tick as Ticked_to, forgetful}
use Rattle.gateway_book.specs.Kept.{kept}
use Rattle.gateway_book.specs.Step.{State, book_step, placed, reservation_of, terms_at, tick_step}
use Rattle.gateway_book.proofs.ForgottenSteps.{forgetting_is_unseen}
use Rattle.gateway_book.proofs.KeptLaws.{kept-by_start, kept-twice}
use Rattle.gateway_book.proofs.OrderlyLaws.{free_where_clear, may_join}
use Rattle.rx_windows.specs.declared.candidate.Candidate.{Candidate}
use Rattle.answer_ticket.specs.Job.{Job, ask_for, candidate_at, frame_for}
use Rattle.uplink_gather.specs.Gatherings.{numbered}
use Rattle.server_desk.specs.declared.faults.TakeFault.{TakeFault}
use Rattle.server_desk.specs.declared.heard.Heard1.{Heard1}
use Rattle.server_desk.specs.Answers.{Open as Tried_at}
use Rattle.server_desk.specs.Register.{Device}
use Rattle.server_desk.specs.Taking.{take_answer}
use Rattle.server_desk.specs.World.{Gateway, World, known}
use Rattle.server_desk.proofs.Places.{get_set_after, get_set_same, map_set, map_there}
use Rattle.server_core.proofs.DeskSteps.{settle_walk, tick_walk, try_walk}
use Rattle.server_core.proofs.GatewaySteps.{booking}
use Rattle.server_core.proofs.Members.{apart_once, rises_once}
use Rattle.server_core.specs.declared.entry.Line.{Line}
use Rattle.server_core.specs.declared.event.Event.TheVariants as events
use Rattle.server_core.specs.Entries.{event_lines, kept_gateway, lines_for, step_lines}
use Rattle.server_core.specs.Schedule.{due_numbers, event_steps, reached}
use Rattle.server_core.specs.Steps.{After, Step, Queue, Hear, Pass, Take, Settle, Try, Cancel, Tick, run_from, step, take_by, terms, tick, tick_at, tried_by, try}
use Rattle.serve_journal.specs.Lives.{Asks, Deed, Recorded, Ticks, after_deed, after_deeds, noted as noted_by}
use Rattle.serve_downlinks.specs.Downlinks.{ToSend, downlinks}
use Rattle.serve_turns.specs.LifeLaw.{all_noted, noted}
use Rattle.serve_turns.specs.NewDesk.{reopened}
use Rattle.serve_turns.proofs.Counters.{ArePassing, passes, settled_none, taken_none}
use Rattle.serve_turns.proofs.DeviceSteps.{keep_same}
use Rattle.serve_turns.proofs.Unnumbered.{bare, bare_ask, bare_state, kept_bare, refusal_bare, rises_bare, step_bare}

deeds_append : (rules : Rules) (ds es : List Deed) (r : Recorded)
    → after_deeds rules (ds ++ es) r ≡ after_deeds rules es (after_deeds rules ds r)
deeds_append rules [] es r = refl
deeds_append rules (d ∷ ds) es r = deeds_append rules ds es (after_deed rules d r)

-- One gateway, at its place among all, which have these numbers.

module _ (id : ℕ) (rules : Rules) (rested : rules.gap ≤ most_gap) (p : ℕ) (names : List ℕ) (differ : AllPairs (λ m n. m ≢ n) names) where
  abbrev gateway : State → Gateway
  gateway s = record { id = id; rules = rules; state = s }

  pub record Stands (w : World) (s : State) : Type 0 where
    pub there : slice_get w.gateways p ≡ Some (gateway s)
    pub named : map (λ g. g.id) w.gateways ≡ names
    pub by_start : IsByStart s.list

  -- it got there by deeds, of which this much got into the journal; the book is told without numbers, as the journal is
  pub record Leads (v : World) (s : State) (journal after : List Reservation) : Type 0 where
    pub state : State
    pub stands : Stands v state
    pub deeds : List Deed
    pub leads : after_deeds rules deeds (record { journal = journal; book = forgetful (bare_state s) })
        ≡ record { journal = after; book = forgetful (bare_state state) }

  stands_on : (w v : World) (s : State) → v.gateways ≡ w.gateways → Stands w s → Stands v s
  stands_on w v s e h =
      record {
        there = ap (λ l. slice_get l p) e ∙ h.there;
        named = ap (λ l. map (λ g. g.id) l) e ∙ h.named;
        by_start = h.by_start;
      }

  pub leads_same : (w v : World) (s : State) (journal : List Reservation) → v.gateways ≡ w.gateways → Stands w s
      → Leads v s journal journal
  leads_same w v s journal e h = record { state = s; stands = stands_on w v s e h; deeds = []; leads = refl }

  pub leads_both : (u v : World) (s : State) (journal mid after : List Reservation) → Leads u s journal mid
      → ((t : State) → Stands u t → Leads v t mid after) → Leads v s journal after
  leads_both u v s journal mid after a f =
      let b = f a.state a.stands in
      record {
        state = b.state;
        stands = b.stands;
        deeds = a.deeds ++ b.deeds;
        leads = deeds_append rules a.deeds b.deeds (record { journal = journal; book = forgetful (bare_state s) })
            ∙ ap (after_deeds rules b.deeds) a.leads ∙ b.leads;
      }

  unseen : (s : State) → IsByStart s.list → IsUnseen rules (bare_state s)
  unseen s o = forgetting_is_unseen rules (bare_state s) rested
      (λ i j a b e f d same. d (rises_once start_of 0 (bare s.list) i j a b (rises_bare 0 s.list o) e f same))

  -- the gateway of another place or this one is written anew
  named_set : (w : World) (s : State) (i : ℕ) (g : Gateway) (t : State) → Stands w s → slice_get w.gateways i ≡ Some g
      → map (λ g. g.id) (slice_set w.gateways i (record g { state = t })) ≡ names
  named_set w s i g t h e = map_set (λ g. g.id) w.gateways i g (record g { state = t }) e refl ∙ h.named

  same_gateway : (w : World) (s : State) (i : ℕ) (g : Gateway) → Stands w s → slice_get w.gateways i ≡ Some g → i ≡ p
      → g ≡ gateway s
  same_gateway w s i g h e is = same_Some _ _ (sym e ∙ subst (λ k. slice_get w.gateways k ≡ Some (gateway s)) (sym is) h.there)

  -- a tick

  module _ (w : World) (s : State) (h : Stands w s) (journal : List Reservation) where
    ticked : (now i : ℕ) (g : Gateway) → slice_get w.gateways i ≡ Some g → Leads (tick_at w now (Some (i, g))).0 s journal journal
    ticked now i g e =
        let new : Gateway = record g { state = tick_step g.state now } in
        elim (get_set_after w.gateways i p new (gateway s) h.there) [
          | inl o ↦
              let same : g ≡ gateway s = same_gateway w s i g h e o.0 in
              record {
                state = tick_step s now;
                stands = record {
                  there = o.1 ∙ ap (λ (x : Gateway). Some (record x { state = tick_step x.state now })) same;
                  named = named_set w s i g (tick_step g.state now) h e;
                  by_start = h.by_start;
                };
                deeds = Ticks now ∷ [];
                leads = ap (λ b. record { journal = journal; book = b }) ((unseen s h.by_start).after (Ticked_to now));
              }
          | inr o ↦ record {
            state = s;
            stands = record { there = o; named = named_set w s i g (tick_step g.state now) h e; by_start = h.by_start };
            deeds = [];
            leads = refl;
          }
        ]

    pub tick_leads : (number now : ℕ) → Leads (tick w number now).0 s journal journal
    tick_leads number now = tick_walk w (λ after. Leads after.0 s journal journal) number now (leads_same w w s journal refl h)
        (ticked now)

  -- a candidate is tried

  module _ (is_kept : ToSend → Bool) where
    -- the journal, with the downlink that a step tells, before others
    record Notes {A : Type 0} (w : World) (s : State) (made : Step) (journal : List Reservation) (more : List (Line A))
        (after : After) : Type 0 where
      behind : List Reservation
      leads : Leads after.0 s journal behind
      lines : all_noted is_kept id (downlinks (lines_for w made after.1 ++ more)) journal
          ≡ all_noted is_kept id (downlinks more) behind

    noted_if : (t : Bool) (ask : Ask) (o : Option Refusal) (journal : List Reservation) → o ≡ None
        → noted_by t o ask journal ≡ cond t (placed (reservation_of ask) journal) journal
    noted_if true ask o journal e = rw e refl
    noted_if false ask o journal e = refl

    noted_own : (t u : Bool) (journal other : List Reservation) → u ≡ true → cond (t && u) other journal ≡ cond t other journal
    noted_own true u journal other e = rw e refl
    noted_own false u journal other e = refl

    noted_other : (t u : Bool) (journal other : List Reservation) → u ≡ false → cond (t && u) other journal ≡ journal
    noted_other true u journal other e = rw e refl
    noted_other false u journal other e = refl

    module _ {A : Type 0} (w : World) (s : State) (h : Stands w s) (n : ℕ) (journal : List Reservation) (more : List (Line A)) where
      module _ (k : ℕ) (job : Job) (c : Candidate) (i : ℕ) (g : Gateway) (at : numbered n w.answers ≡ Some (Tried_at k job))
          (tried : candidate_at job k ≡ Some c) (there : slice_get w.gateways i ≡ Some g) (own : g.id ≡ c.gateway)
          (accepts : refusal_of (terms g) g.state.list (ask_for job c) ≡ None) where
        abbrev sent : ToSend
        sent = record { number = n; candidate = c; frame = frame_for job c }

        abbrev ask : Ask
        ask = ask_for job c

        abbrev after : World
        after = (tried_by w n k job c (i, g) None).0

        -- this gateway books it
        books_it : i ≡ p → (c.gateway == id) ≡ true → Leads after s journal (noted is_kept id sent journal)
        books_it is here =
            let same : g ≡ gateway s = same_gateway w s i g h there is in
            let unrefused : refusal_of (terms_at rules s) s.list ask ≡ None =
            subst (λ (x : Gateway). refusal_of (terms x) x.state.list ask ≡ None) same accepts in
            let seen = unseen s h.by_start in
            let answer : refusal_of (terms_at rules (forgetful (bare_state s))) (forgetful (bare_state s)).list (bare_ask ask) ≡ None =
            same_answer _ _ (seen.reply (Book (bare_ask ask))) ∙ refusal_bare rules s ask h.by_start ∙ unrefused in
            let b = booking (gateway s) ask unrefused in
            let clear = (may_join (terms_at rules s) s.list ask b.made b.asked unrefused).clear in
            let rises : IsByStart (place b.made s.list) = RisesFrom-place_by start_of 0 b.made s.list (omega arith)
            (free_where_clear rules.gap s.list b.made h.by_start clear) h.by_start in
            record {
              state = book_step rules s ask;
              stands = record {
                there = subst (λ j. slice_get (slice_set w.gateways j (record g { state = book_step g.rules g.state ask })) p
                    ≡ Some (gateway (book_step rules s ask))) (sym is)
                    (subst (λ (x : Gateway). slice_get (slice_set w.gateways p (record x { state = book_step x.rules x.state ask })) p
                    ≡ Some (gateway (book_step rules s ask))) (sym same)
                    (get_set_same w.gateways p (gateway s) (gateway (book_step rules s ask)) h.there));
                named = named_set w s i g (book_step g.rules g.state ask) h there;
                by_start = subst (λ (x : State). IsByStart x.list) (sym b.state) rises;
              };
              deeds = Asks (bare_ask ask) (is_kept sent) ∷ [];
              leads = ap (λ j. record { journal = j; book = forgetful (book_step rules (forgetful (bare_state s)) (bare_ask ask)) })
                  (noted_if (is_kept sent) (bare_ask ask) _ journal answer
                  ∙ sym (noted_own (is_kept sent) (c.gateway == id) journal _ here))
                  ∙ ap (λ b. record { journal = noted is_kept id sent journal; book = b })
                  (seen.after (Book (bare_ask ask)) ∙ ap forgetful (step_bare rules s ask b.made h.by_start unrefused b.asked));
            }
          where
            same_answer : (x y : Option Refusal) → Answered x ≡ Answered y → x ≡ y
            same_answer x y e = cc

        -- another one does
        other_books_it : i ≢ p → (c.gateway == id) ≡ false → Leads after s journal (noted is_kept id sent journal)
        other_books_it is other =
            elim (get_set_after w.gateways i p (record g { state = book_step g.rules g.state ask }) (gateway s) h.there) [
              | inl o ↦ absurd (is o.0)
              | inr o ↦ record {
                state = s;
                stands = record { there = o; named = named_set w s i g (book_step g.rules g.state ask) h there; by_start = h.by_start };
                deeds = [];
                leads = ap (λ j. record { journal = j; book = forgetful (bare_state s) }) (sym (noted_other (is_kept sent) (c.gateway == id) journal _ other));
              }
            ]

        by_test : (t : Bool) → (c.gateway == id) ≡ t → Leads after s journal (noted is_kept id sent journal)
        by_test true e =
            let same : c.gateway ≡ id = eqb-true c.gateway id e in
            books_it (apart_once (λ (x : Gateway). x.id) (λ m. m) w.gateways names h.named differ i p g (gateway s) there h.there
            (own ∙ same)) e
        by_test false e = other_books_it (λ is.
            let same : g ≡ gateway s = same_gateway w s i g h there is in
            true≢false (sym (eq-eqb c.gateway id (sym own ∙ ap (λ (x : Gateway). x.id) same)) ∙ e)) e

        accepted_notes : Notes w s (Try n) journal more (tried_by w n k job c (i, g) None)
        accepted_notes =
            record { behind = noted is_kept id sent journal; leads = by_test (c.gateway == id) refl; lines = rw (at, tried) refl }

      try_notes : Notes w s (Try n) journal more (try w n)
      try_notes = try_walk w (Notes w s (Try n) journal more) n
          (record { behind = journal; leads = leads_same w w s journal refl h; lines = refl }) tried
        where
          tried : (k : ℕ) (job : Job) (c : Candidate) (i : ℕ) (g : Gateway) → numbered n w.answers ≡ Some (Tried_at k job)
              → candidate_at job k ≡ Some c → slice_get w.gateways i ≡ Some g → g.id ≡ c.gateway → (o : Option Refusal)
              → refusal_of (terms g) g.state.list (ask_for job c) ≡ o → Notes w s (Try n) journal more (tried_by w n k job c (i, g) o)
          tried k job c i g e f q own (Some refusal) is =
              record { behind = journal; leads = leads_same w (tried_by w n k job c (i, g) (Some refusal)).0 s journal refl h; lines = refl }
          tried k job c i g e f q own None is = accepted_notes k job c i g e f q own is

    -- the steps of a pass

    taken_gateways : (w : World) (n : ℕ) (r : Result Job TakeFault) → (take_by w n r).0.gateways ≡ w.gateways
    taken_gateways w n (Ok job) = refl
    taken_gateways w n (Err fault) = refl

    settled_gateways : (w : World) (n : ℕ) → (step w (Settle n)).0.gateways ≡ w.gateways
    unfolding step
    settled_gateways w n = settle_walk w (λ (after : After). after.0.gateways ≡ w.gateways) n (λ none. refl) (λ answer ending e f t. refl)

    steps_lead : (A : Type 0) (old : List Device) (w : World) (ss : List Step) → ArePassing old w ss → (s : State) → Stands w s
        → (journal : List Reservation)
        → Leads (reached w ss) s journal (all_noted is_kept id (downlinks (step_lines {A = A} w ss)) journal)
    unfolding run_from step_lines step
    steps_lead A old w [] passing s h journal = leads_same w w s journal refl h
    steps_lead A old w (Pass now ∷ ss) passing s h journal =
        let v = (step w (Pass now)).0 in
        steps_lead A old v ss passing s (stands_on w v s refl h) journal
    steps_lead A old w (Take n ∷ ss) passing s h journal =
        let v = (step w (Take n)).0 in
        subst (λ ds. Leads (reached v ss) s journal (all_noted is_kept id ds journal))
        (sym (taken_none (step_lines {A = A} v ss) w n (step w (Take n)).1))
        (steps_lead A old v ss passing s (stands_on w v s (taken_gateways w n (take_answer w.reg (known w) n)) h) journal)
    steps_lead A old w (Settle n ∷ ss) passing s h journal =
        let v = (step w (Settle n)).0 in
        subst (λ ds. Leads (reached v ss) s journal (all_noted is_kept id ds journal))
        (sym (settled_none (step_lines {A = A} v ss) w n (step w (Settle n)).1))
        (steps_lead A old v ss passing s (stands_on w v s (settled_gateways w n) h) journal)
    steps_lead A old w (Try n ∷ ss) passing s h journal =
        let v = (step w (Try n)).0 in
        let notes = try_notes w s h n journal (step_lines {A = A} v ss) in
        subst (λ after. Leads (reached v ss) s journal after) (sym notes.lines)
        (leads_both v (reached v ss) s journal notes.behind _ notes.leads
        (λ t stands. steps_lead A old v ss passing.1 t stands notes.behind))
    steps_lead A old w (Queue addr payload ∷ ss) passing s h journal = absurd passing
    steps_lead A old w (Hear bytes heard arrived ∷ ss) passing s h journal = absurd passing
    steps_lead A old w (Cancel n ∷ ss) passing s h journal = absurd passing
    steps_lead A old w (Tick number now ∷ ss) passing s h journal = absurd passing

    -- events

    pub pass_leads : (A : Type 0) (w : World) (now : ℕ) (s : State) → Stands w s → (journal : List Reservation)
        → Leads (reached w (event_steps {A = A} w (events.Pass now))) s journal
        (all_noted is_kept id (downlinks (event_lines {A = A} w (events.Pass now))) journal)
    unfolding event_steps
    pass_leads A w now s h journal =
        let ss = event_steps {A = A} w (events.Pass now) in
        steps_lead A w.reg.devices w ss
        (passes w.reg.devices w now (due_numbers now w.reg.gathered.list) (keep_same w.reg.devices)) s h journal

  -- a world after another in which nothing got into the journal
  abbrev pub Follows : World → World → Type 0
  Follows w v = (s : State) (journal : List Reservation) → Stands w s → Leads v s journal journal

  pub follows_same : (w : World) → Follows w w
  follows_same w s journal h = leads_same w w s journal refl h

  pub follows_both : (u v w : World) → Follows u v → Follows v w → Follows u w
  follows_both u v w f g s journal h = leads_both v w s journal journal journal (f s journal h) (λ t stands. g t journal stands)

  pub hear_follows : (A : Type 0) (w : World) (bytes : List ℕ) (heard : Heard1) (arrived : ℕ)
      → Follows w (reached w (event_steps {A = A} w (events.Hear bytes heard arrived)))
  unfolding event_steps run_from step
  hear_follows A w bytes heard arrived s journal h =
      leads_same w (reached w (event_steps {A = A} w (events.Hear bytes heard arrived))) s journal refl h

  -- a new desk on the same books
  pub reopen_follows : (w : World) → Follows w (reopened w)
  reopen_follows w s journal h =
      let rises = kept-by_start s.list s.floor h.by_start in
      record {
        state = forgetful s;
        stands = record {
          there = map_there kept_gateway w.gateways p (gateway s) h.there;
          named = map-map (λ (g : Gateway). g.id) kept_gateway w.gateways ∙ h.named;
          by_start = rises;
        };
        deeds = [];
        leads = ap (λ l. record { journal = journal; book = record s { list = l } })
            (kept_bare s.list s.floor h.by_start ∙ ap bare (sym (kept-twice s.list s.floor h.by_start))
            ∙ sym (kept_bare (kept s.list s.floor) s.floor rises));
      }

  pub queue_follows : (A : Type 0) (w : World) (addr port : ℕ) (payload : List ℕ)
      → Follows w (reached w (event_steps {A = A} w (events.Queue addr port payload)))
  unfolding event_steps run_from step
  queue_follows A w addr port payload s journal h =
      leads_same w (reached w (event_steps {A = A} w (events.Queue addr port payload))) s journal refl h

  pub tick_follows : (A : Type 0) (w : World) (number now : ℕ)
      → Follows w (reached w (event_steps {A = A} w (events.Tick number now)))
  unfolding event_steps run_from step
  tick_follows A w number now s journal h = tick_leads w s h journal number now
