-- Passes, reports and datagrams.
use Rattle.std.proofs.Common.{◌≡◌, ◌∙◌, ◌-◌, Bool, true, false, List, [], ℕ, Option, Some, ap, cond, map, nat_lt, is_some, subst, sym}
use Rattle.forwarder_sessions.specs.Received.{Comes, known_after, received_of}
use Rattle.forwarder_sessions.specs.Sessions.{Known, tick_of}
use Rattle.server_core.specs.declared.entry.Entry.{Entry}
use Rattle.server_core.specs.declared.event.Event.TheVariants.{Pass, Tick}
use Rattle.server_core.specs.Entries.{event_lines}
use Rattle.server_core.specs.Server.{seen, IsAt}
use Rattle.server_desk.specs.Desk.{DeskView}
use Rattle.server_desk.specs.Passing.{pass_answer}
use Rattle.serve_turns.specs.declared.answerer.Answerer.{Answerer}
use Rattle.serve_turns.specs.declared.sending.Written.TheVariants.{NotAppended}
use Rattle.serve_turns.specs.Devices.{without_counters}
use Rattle.serve_turns.specs.Effects.{Effect, Packet, Adds, AddsFront}
use Rattle.serve_turns.specs.Life.{Life, AreAnswers, IsAlive, IsReady, Makes, after_event, saying_drops}
use Rattle.serve_turns.specs.Sending.{sending, sending_effects}
use Rattle.serve_turns.specs.Taking.{after_news}
use Rattle.serve_turns.specs.Turn.{Did, Broke, after_pass, after_report, after_tick, after_tick_at, answering, answering_effects, comes, knowing, pass_effects, sent_back, ticking, told_every, took, took_effects}
use Rattle.serve_turns.proofs.Effects.{adds_none}
use Rattle.serve_turns.proofs.Parts.{nothing_front, whole_front}
use Rattle.serve_turns.proofs.Sendings.{unasked}

-- a tick

pub tick_made : {S A R : Type 0} {C : _} (now gateway at : ℕ) (k : Known) (a b : Answerer S A R C) → tick_of now k ≡ Some at
    → k.forwarder.gateway ≡ gateway → Makes (after_event {A = A} (Tick gateway at)) a b → Makes (after_tick A now k) a b
tick_made {A = A} now gateway at k a b ticks own made =
    record {
      ready = made.ready;
      goes = λ l alive.
          subst (λ o. IsAlive (after_tick_at A k.forwarder.gateway o l) b) (sym ticks)
          (subst (λ g. IsAlive (after_event {A = A} (Tick g at) l) b) (sym own) (made.goes l alive));
    }

-- a pass

module _ {S A R : Type 0} {C : _} (now : ℕ) (a : Answerer S A R C) where
  due_in : (t : Bool) → is_some (pass_answer (seen a.server).desk.reg now) ≡ t → (l : Life) → IsAlive l a
      → is_some (pass_answer l.world.reg now) ≡ t
  due_in t is l alive = ap (λ (d : DeskView). is_some (pass_answer d.reg now)) (sym alive.at.desk) ∙ is

  -- nothing is due
  pub pass_none : (h : Option (List Effect)) → IsReady a → is_some (pass_answer (seen a.server).desk.reg now) ≡ false
      → Did h h (after_pass A now) (pass_effects A now) a a
  pass_none h ready none =
      record {
        how = unasked;
        ready = ready;
        lives = λ l alive.
            subst (λ t. IsAlive (cond t (answering A now unasked (ticking A now l)) l) a) (sym (due_in false none l alive)) alive;
        effects = λ l alive.
            subst (λ t. Adds h h (cond t (answering_effects A now unasked (ticking A now l)) []))
            (sym (due_in false none l alive)) (adds_none h);
      }

  -- it was cut short before anything was sent
  pub pass_broke : (h : Option (List Effect)) → Broke h h (pass_effects A now) a
  pass_broke h = record { how = unasked; effects = λ l alive. nothing_front h (pass_effects A now unasked l) }

  module _ (b c : Answerer S A R C) (told : List (Entry A)) (due : is_some (pass_answer (seen a.server).desk.reg now) ≡ true)
      (ticks : Makes (ticking A now) a b) (answers : Makes (after_event {A = A} (Pass now)) b c) (are : AreAnswers (Pass now) told b)
      (h0 h1 : Option (List Effect)) where
    lines_are : (l : Life) → IsAlive l a → map (λ e. e.line) told ≡ event_lines {A = A} (ticking A now l).world (Pass now)
    lines_are l alive = are (ticking A now l) (ticks.goes l alive)

    then_alive : (l : Life) → IsAlive l a → IsAlive (after_event {A = A} (Pass now) (ticking A now l)) c
    then_alive l alive = answers.goes (ticking A now l) (ticks.goes l alive)

    pub pass_done : (d : Answerer S A R C)
        → Did h0 h1 (sending now (map (λ e. e.line) told)) (sending_effects now (map (λ e. e.line) told)) c d
        → Did h0 h1 (after_pass A now) (pass_effects A now) a d
    pass_done d did =
        record {
          how = did.how;
          ready = did.ready;
          lives = λ l alive.
              let t = ticking A now l in
              subst (λ x. IsAlive (cond x (answering A now did.how t) l) d) (sym (due_in true due l alive))
              (subst (λ ls. IsAlive (sending now ls did.how (after_event {A = A} (Pass now) t)) d) (lines_are l alive)
              (did.lives (after_event {A = A} (Pass now) t) (then_alive l alive)));
          effects = λ l alive.
              let t = ticking A now l in
              subst (λ x. Adds h0 h1 (cond x (answering_effects A now did.how t) [])) (sym (due_in true due l alive))
              (subst (λ ls. Adds h0 h1 (sending_effects now ls did.how (after_event {A = A} (Pass now) t))) (lines_are l alive)
              (did.effects (after_event {A = A} (Pass now) t) (then_alive l alive)));
        }

    pub pass_cut : Broke h0 h1 (sending_effects now (map (λ e. e.line) told)) c → Broke h0 h1 (pass_effects A now) a
    pass_cut broke =
        record {
          how = broke.how;
          effects = λ l alive.
              let t = ticking A now l in
              subst (λ x. AddsFront h0 h1 (cond x (answering_effects A now broke.how t) [])) (sym (due_in true due l alive))
              (subst (λ ls. AddsFront h0 h1 (sending_effects now ls broke.how (after_event {A = A} (Pass now) t)))
              (lines_are l alive) (broke.effects (after_event {A = A} (Pass now) t) (then_alive l alive)));
        }

-- a report

-- only when it was told last is another
pub record IsSameButTold {S A R : Type 0} {C : _} (old new : Answerer S A R C) : Type 0 where
  pub server : new.server ≡ old.server
  pub set : new.settings ≡ old.settings
  pub counts : new.counts ≡ old.counts
  pub known : new.forwarders.sessions.items ≡ old.forwarders.sessions.items
  pub kept : new.keeping ≡ old.keeping
  pub drops : new.drops.items ≡ old.drops.items
  pub text : new.text.writer.items ≡ old.text.writer.items

pub told_then : {S A R : Type 0} {C : _} (now : ℕ) (a b : Answerer S A R C) → IsSameButTold a b → b.told_at ≡ now → (l : Life)
    → IsAlive l a → IsAlive (record l { told_at = now }) b
told_then now a b same told l alive =
    record {
      at = subst (λ s. IsAt l.world (seen s)) (sym same.server) alive.at;
      set = ap (λ s. map without_counters s.devices) same.set ∙ alive.set;
      known = same.known ∙ alive.known;
      kept = same.kept ∙ alive.kept;
      drops = same.drops ∙ alive.drops;
      told_at = told;
      counts = same.counts ∙ alive.counts;
      text = same.text ∙ alive.text;
    }

pub report_none : {S A R : Type 0} {C : _} (now : ℕ) (a : Answerer S A R C) → IsReady a → nat_lt (now - a.told_at) told_every ≡ true
    → Makes (after_report now) a a
report_none now a ready early =
    record {
      ready = ready;
      goes = λ l alive.
          subst (λ t. IsAlive (cond t l (saying_drops (record l { told_at = now }))) a)
          (sym (ap (λ n. nat_lt (now - n) told_every) (sym alive.told_at) ∙ early)) alive;
    }

pub report_said : {S A R : Type 0} {C : _} (now : ℕ) (a b c : Answerer S A R C) → nat_lt (now - a.told_at) told_every ≡ false
    → ((l : Life) → IsAlive l a → IsAlive (record l { told_at = now }) b) → Makes saying_drops b c → Makes (after_report now) a c
report_said now a b c late at made =
    record {
      ready = made.ready;
      goes = λ l alive.
          subst (λ t. IsAlive (cond t l (saying_drops (record l { told_at = now }))) c)
          (sym (ap (λ n. nat_lt (now - n) told_every) (sym alive.told_at) ∙ late))
          (made.goes (record l { told_at = now }) (at l alive));
    }

-- a datagram

-- where its gateway's downlinks go is known, and nothing else changed
pub record HasPulled {S A R : Type 0} {C : _} (now : ℕ) (p : Packet) (old new : Answerer S A R C) : Type 0 where
  pub known : new.forwarders.sessions.items ≡ known_after old.forwarders.sessions.items p.source now p.bytes
  pub server : new.server ≡ old.server
  pub set : new.settings ≡ old.settings
  pub counts : new.counts ≡ old.counts
  pub kept : new.keeping ≡ old.keeping
  pub drops : new.drops.items ≡ old.drops.items
  pub told_at : new.told_at ≡ old.told_at
  pub text : new.text.writer.items ≡ old.text.writer.items

module _ {S A R : Type 0} {C : _} (now : ℕ) (p : Packet) (came : Comes) (a b : Answerer S A R C) (h0 h1 : Option (List Effect))
    (is : came ≡ received_of a.forwarders.sessions.items p.source now p.bytes) (pulled : HasPulled now p a b)
    (adds : Adds h0 h1 (sent_back p.source came.acknowledgement)) where
  came_is : (l : Life) → IsAlive l a → came ≡ comes now p l.known
  came_is l alive = is ∙ ap (λ ks. received_of ks p.source now p.bytes) alive.known

  known_alive : (l : Life) → IsAlive l a → IsAlive (knowing now p l) b
  known_alive l alive =
      record {
        at = subst (λ s. IsAt l.world (seen s)) (sym pulled.server) alive.at;
        set = ap (λ s. map without_counters s.devices) pulled.set ∙ alive.set;
        known = pulled.known ∙ ap (λ ks. known_after ks p.source now p.bytes) alive.known;
        kept = pulled.kept ∙ alive.kept;
        drops = pulled.drops ∙ alive.drops;
        told_at = pulled.told_at ∙ alive.told_at;
        counts = pulled.counts ∙ alive.counts;
        text = pulled.text ∙ alive.text;
      }

  acked : (l : Life) → IsAlive l a → Adds h0 h1 (took_effects now p NotAppended l)
  acked l alive = subst (λ (c : Comes). Adds h0 h1 (sent_back p.source c.acknowledgement)) (came_is l alive) adds

  pub took_done : (c : Answerer S A R C) → Makes (after_news A now came.news) b c
      → Did h0 h1 (took A now p) (took_effects now p) a c
  took_done c made =
      record {
        how = NotAppended;
        ready = made.ready;
        lives = λ l alive.
            subst (λ (x : Comes). IsAlive (after_news A now x.news (knowing now p l)) c) (came_is l alive)
            (made.goes (knowing now p l) (known_alive l alive));
        effects = acked;
      }

  pub took_cut : Broke h0 h1 (took_effects now p) a
  took_cut = record { how = NotAppended; effects = λ l alive. whole_front h0 h1 (took_effects now p NotAppended l) (acked l alive) }

pub took_broke : {S A R : Type 0} {C : _} (now : ℕ) (p : Packet) (a : Answerer S A R C) (h : Option (List Effect))
    → Broke h h (took_effects now p) a
took_broke now p a h = record { how = NotAppended; effects = λ l alive. nothing_front h (took_effects now p NotAppended l) }
