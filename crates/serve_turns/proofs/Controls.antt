-- What is done with what a program on the machine itself asks for.
use Rattle.std.proofs.Common.{◌≡◌, ◌≤◌, ◌<◌, ◌∙◌, Bool, true, false, List, [], ◌∷◌, ℕ, Option, Some, None, ap, length, map, refl, subst, sym}
use Rattle.std.proofs.lemmas.Bool.{le-leb, le-ltb, leb-true, lt-leb}
use Rattle.std.proofs.lemmas.Option.{same_Some}
use Rattle.std.specs.Prelude.{not, is_none, is_some, nat_le, nat_lt, if◌then◌else◌, ◌&&◌}
use Rattle.std.proofs.lemmas.Simd.{map-map}
use Rattle.std.specs.Option.{option_map}
use Rattle.text_lines.specs.Line.{text_of}
use Rattle.lora_frame.specs.Ports.{is_application_port}
use Rattle.forwarder_sessions.specs.declared.session.Endpoint.{Endpoint}
use Rattle.gateway_book.specs.Book.{Book}
use Rattle.server_core.specs.declared.entry.Entry.{Entry}
use Rattle.server_core.specs.Entries.{event_lines, gateway_of, kept_gateway}
use Rattle.server_core.specs.Server.{seen, AreBooksOf, IsBookOf}
use Rattle.server_desk.specs.declared.faults.QueueFault.TheVariants.{Long, Port, QueueFull}
use Rattle.server_desk.specs.Queueing.{queue_answer_for, queued_or}
use Rattle.server_desk.specs.Register.{Device, waiting_for}
use Rattle.server_desk.specs.World.{Gateway}
use Rattle.serve_journal.specs.declared.entry.Entry.TheVariants as says
use Rattle.serve_journal.specs.Payload.{Waiting, payload_of}
use Rattle.serve_downlinks.specs.Batch.{batch_text}
use Rattle.run_lines.specs.EntryLine.{line_text}
use Rattle.run_lines.specs.ReplayText.{entry_lines, report_of}
use Rattle.serve_turns.specs.declared.answerer.Answerer.{Answerer}
use Rattle.serve_turns.specs.declared.command.ToQueue.{ToQueue}
use Rattle.serve_turns.specs.declared.sending.Written.TheVariants.{NotAppended}
use Rattle.serve_turns.specs.Control.{after_queue_command, batch_if_taken, is_met, journal_fails, meeting, meeting_effects}
use Rattle.serve_turns.specs.Control.{need_for, queue_command_effects, event_of, queue_reply, queueing, report_effects, reporting, waits_batch}
use Rattle.serve_turns.specs.Controlled.{HasMet}
use Rattle.serve_turns.specs.Effects.{Effect, Acknowledges, Adds}
use Rattle.serve_turns.specs.Life.{AreAnswers, IsAlive, IsReady, Makes, after_event}
use Rattle.serve_turns.specs.Turn.{Did, Broke}
use Rattle.serve_turns.proofs.Effects.{adds_then}

module _ {S A R : Type 0} {C : _} (now : ℕ) (q : ToQueue A) (a : Answerer S A R C) where
  -- what was found out of it
  pub met_as : (t u : Bool) (h0 h1 : Option (List Effect)) (b : Answerer S A R C) → t ≡ u → HasMet now q t h0 h1 a b → HasMet now q u h0 h1 a b
  met_as t u h0 h1 b is met = subst (λ x. HasMet now q x h0 h1 a b) is met

  -- then it is answered

  module _ (source : Endpoint) where
    module _ (h0 h1 h2 : Option (List Effect)) (b : Answerer S A R C) where
      pub broke_met : (t : Bool) → HasMet now q t h0 h1 a b → Broke h0 h1 (queue_command_effects now source q) a
      broke_met t met =
          record {
            how = met.how;
            effects = λ l alive.
                let need = need_for q l in
                let reply = queue_reply (is_met met.how need) q (meeting now met.how need l) in
                record {
                  front = meeting_effects met.how need;
                  rest = Acknowledges source reply ∷ [];
                  is = refl;
                  adds = met.effects l alive;
                };
          }

      pub not_queued : HasMet now q false h0 h1 a b → Adds h1 h2 (Acknowledges source journal_fails ∷ [])
          → Did h0 h2 (after_queue_command now q) (queue_command_effects now source q) a b
      not_queued met replied =
          record {
            how = met.how;
            ready = met.ready;
            lives = λ l alive.
                let m = meeting now met.how (need_for q l) l in
                subst (λ t. IsAlive (queueing t q m) b) (met.met l alive) (met.lives l alive);
            effects = λ l alive.
                let need = need_for q l in
                let m = meeting now met.how need l in
                adds_then h0 h1 h2 (meeting_effects met.how need) (Acknowledges source (queue_reply (is_met met.how need) q m) ∷ [])
                (met.effects l alive)
                (subst (λ t. Adds h1 h2 (Acknowledges source (queue_reply t q m) ∷ [])) (met.met l alive) replied);
          }

      pub queued : (c : Answerer S A R C) (told : List (Entry A)) → HasMet now q true h0 h1 a b → Makes (after_event (event_of q)) b c
          → AreAnswers (event_of q) told b → Adds h1 h2 (Acknowledges source (text_of (entry_lines told)) ∷ [])
          → Did h0 h2 (after_queue_command now q) (queue_command_effects now source q) a c
      queued c told met made answers replied =
          record {
            how = met.how;
            ready = made.ready;
            lives = λ l alive.
                let m = meeting now met.how (need_for q l) l in
                subst (λ t. IsAlive (queueing t q m) c) (met.met l alive) (made.goes m (met.lives l alive));
            effects = λ l alive.
                let need = need_for q l in
                let m = meeting now met.how need l in
                let lines : entry_lines told ≡ map line_text (event_lines m.world (event_of q)) =
                sym (map-map line_text (λ (x : Entry A). x.line) told) ∙ ap (map line_text) (answers m (met.lives l alive)) in
                adds_then h0 h1 h2 (meeting_effects met.how need) (Acknowledges source (queue_reply (is_met met.how need) q m) ∷ [])
                (met.effects l alive)
                (subst (λ t. Adds h1 h2 (Acknowledges source (queue_reply t q m) ∷ [])) (met.met l alive)
                (subst (λ ls. Adds h1 h2 (Acknowledges source (text_of ls) ∷ [])) lines replied));
          }

-- which payloads are refused

module _ {A : Type 0} (q : ToQueue A) (d : Device) where
  full_if : (t lt full : Bool) → full ≡ true
      → batch_if_taken (queued_or d (if not t then Some Port else if lt then Some Long else if full then Some QueueFull else None)) q ≡ None
  full_if false lt full is = refl
  full_if true true full is = refl
  full_if true false true is = refl
  full_if true false false is = absurd (cc is)

  taken_if : (t lt full : Bool) → t ≡ true → lt ≡ false → full ≡ false
      → batch_if_taken (queued_or d (if not t then Some Port else if lt then Some Long else if full then Some QueueFull else None)) q
      ≡ Some (waits_batch q)
  taken_if t lt full u v w = rw (u, v, w) refl

-- whether there is a device
module _ {X Y : Type 0} (f : X → Y) where
  pub none_by : (o : Option X) → is_some (option_map f o) ≡ false → o ≡ None
  none_by None e = refl
  none_by (Some x) e = absurd (cc e)

  pub there_by : (o : Option X) → is_some (option_map f o) ≡ true → is_none o ≡ false
  there_by None e = absurd (cc e)
  there_by (Some x) e = refl

-- a device that isn't there, or has no room
pub batch_of_none : {A : Type 0} (q : ToQueue A) (o : Option (ℕ × Device)) → o ≡ None
    → batch_if_taken (queue_answer_for o (q.port, q.payload)) q ≡ None
batch_of_none q o none = rw none refl

pub batch_of_full : {A : Type 0} (q : ToQueue A) (o : Option (ℕ × Device)) → 16 ≤ length (waiting_for o)
    → batch_if_taken (queue_answer_for o (q.port, q.payload)) q ≡ None
batch_of_full q None full = refl
batch_of_full q (Some f) full = full_if q f.1 _ _ _ (le-leb _ _ full)

-- a payload as the journal has it
held : (port : ℕ) (bytes : List ℕ) (w : Waiting) (t le : Bool)
    → (if t && le then Some (record { port = port; bytes = bytes }) else None) ≡ Some w
    → (t ≡ true) × (le ≡ true) × (record { port = port; bytes = bytes } ≡ w)
held port bytes w true true e = (refl, refl, same_Some _ _ e)
held port bytes w true false e = absurd (cc e)
held port bytes w false le e = absurd (cc e)

pub batch_of_taken : {A : Type 0} (q : ToQueue A) (o : Option (ℕ × Device)) (w : Waiting) → is_none o ≡ false
    → length (waiting_for o) < 16 → payload_of q.port q.payload ≡ Some w
    → batch_if_taken (queue_answer_for o (q.port, q.payload)) q ≡ Some (batch_text (says.Queue q.addr w ∷ []))
batch_of_taken q None w there room is = absurd (cc there)
batch_of_taken q (Some f) w there room is =
    let h = held q.port q.payload w (is_application_port q.port) (nat_le (length q.payload) 242) is in
    taken_if q f.1 (is_application_port q.port) (nat_lt 242 (length q.payload)) (nat_le 16 (length f.1.queue)) h.0
    (le-ltb 242 (length q.payload) (leb-true (length q.payload) 242 h.1)) (lt-leb 16 (length f.1.queue) room)
    ∙ ap (λ x. Some (batch_text (says.Queue q.addr x ∷ []))) h.2

-- a report

one_reported : (b : Book) (g : Gateway) → IsBookOf b g → gateway_of b ≡ kept_gateway g
one_reported b g is =
    rw (is.id, is.rules, is.remembers.floor, is.remembers.list, is.remembers.booked, is.remembers.cancelled) refl

all_reported : (bs : List Book) (gs : List Gateway) → AreBooksOf bs gs → map gateway_of bs ≡ map kept_gateway gs
all_reported [] [] are = refl
all_reported [] (g ∷ gs) are = absurd are
all_reported (b ∷ bs) [] are = absurd are
all_reported (b ∷ bs) (g ∷ gs) are =
    ap (λ x. x ∷ map gateway_of bs) (one_reported b g are.0) ∙ ap (λ l. kept_gateway g ∷ l) (all_reported bs gs are.1)

module _ {S A R : Type 0} {C : _} (source : Endpoint) (a : Answerer S A R C) (h0 h1 : Option (List Effect)) where
  pub reported : IsReady a
      → Adds h0 h1 (Acknowledges source (text_of (report_of a.counts (map gateway_of (seen a.server).books))) ∷ [])
      → Did h0 h1 reporting (report_effects source) a a
  reported ready replied =
      record {
        how = NotAppended;
        ready = ready;
        lives = λ l alive. alive;
        effects = λ l alive.
            subst (λ t. Adds h0 h1 (Acknowledges source (text_of t) ∷ []))
            (ap (λ n. report_of n (map gateway_of (seen a.server).books)) alive.counts
            ∙ ap (report_of l.counts) (all_reported (seen a.server).books l.world.gateways alive.at.books)) replied;
      }
