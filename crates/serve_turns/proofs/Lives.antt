-- How a server's life goes on.
use Rattle.std.proofs.Common.{◌≡◌, ◌++◌, ◌∙◌, List, [], ◌∷◌, map, Option, Some, None, ℕ, refl, ap, subst, sym}
use Rattle.std.proofs.lemmas.{List.map-id, Simd.map-map}
use Rattle.text_lines.specs.Line.{text_of}
use Rattle.server_core.specs.declared.entry.Entry.{Entry}
use Rattle.server_core.specs.declared.entry.Line.{Line}
use Rattle.server_core.specs.declared.event.Event.{Event}
use Rattle.server_core.specs.Entries.{entry_at, event_lines}
use Rattle.server_core.specs.Schedule.{reached, event_steps}
use Rattle.server_desk.specs.declared.faults.DeskFault.{DeskFault}
use Rattle.server_core.specs.Server.{seen, Does, IsAt, IsBetweenCalls, Seen, without_lines}
use Rattle.run_lines.specs.EntryLine.{line_text}
use Rattle.run_lines.specs.EntryName.{hear_name}
use Rattle.run_lines.specs.ReplayText.{entry_lines}
use Rattle.run_lines.specs.declared.uplink_counts.UplinkCounts.{UplinkCounts}
use Rattle.run_lines.specs.UplinkCounts.{counts_of}
use Rattle.serve_turns.specs.declared.answerer.Answerer.{Answerer}
use Rattle.serve_turns.specs.Devices.{settings_of, without_counters}
use Rattle.serve_turns.specs.Lines.{asked_line}
use Rattle.serve_turns.specs.Life.{Life, AreAnswers, Makes, IsReady, IsAlive, after_event, after_copy, counts_with, doing, joining, number_in, refusal_of, telling}
use Rattle.serve_turns.specs.Tallies.{dropped_by}
use Rattle.serve_turns.proofs.DeviceSteps.{keep_steps}

-- nothing happened
pub stays : {S A R : Type 0} {C : _} (a : Answerer S A R C) → IsReady a → Makes (λ l. l) a a
stays a ready = record { ready = ready; goes = λ l alive. alive }

-- one thing after another
pub makes_then : {S A R : Type 0} {C : _} (f g : Life → Life) (a b c : Answerer S A R C) → Makes f a b → Makes g b c
    → Makes (λ l. g (f l)) a c
makes_then f g a b c first next =
    record { ready = next.ready; goes = λ l alive. next.goes (f l) (first.goes l alive) }

-- the same, said otherwise
pub makes_same : {S A R : Type 0} {C : _} (f g : Life → Life) (a b : Answerer S A R C) → ((l : Life) → f l ≡ g l) → Makes f a b
    → Makes g a b
makes_same f g a b same made =
    record { ready = made.ready; goes = λ l alive. subst (λ x. IsAlive x b) (same l) (made.goes l alive) }

-- the lines that were taken out

texts_told : {A : Type 0} (told : List (Entry A)) (lines : List (Line A)) → told ≡ map (entry_at 0) lines
    → entry_lines told ≡ map line_text lines
texts_told told lines is = ap entry_lines is ∙ map-map (λ e. line_text e.line) (entry_at 0) lines

lines_told : {A : Type 0} (told : List (Entry A)) (lines : List (Line A)) → told ≡ map (entry_at 0) lines
    → map (λ e. e.line) told ≡ lines
lines_told told lines is = ap (map (λ e. e.line)) is ∙ map-map (λ e. e.line) (entry_at 0) lines ∙ map-id lines

-- all but the server, the text and these counts is the same
pub record IsSameBeside {S A R : Type 0} {C : _} (counted : UplinkCounts) (old new : Answerer S A R C) : Type 0 where
  pub set : new.settings ≡ old.settings
  pub known : new.forwarders.sessions.items ≡ old.forwarders.sessions.items
  pub kept : new.keeping ≡ old.keeping
  pub drops : new.drops.items ≡ old.drops.items
  pub told_at : new.told_at ≡ old.told_at
  pub counts : new.counts ≡ counted

-- an event was done by the core, and its lines were taken out
pub record IsDone {S A R : Type 0} {C : _} (e : Event A) (told : List (Entry A)) (middle : Seen A) (old : Answerer S A R C)
    : Type 0 where
  pub ready : IsReady old
  pub between : IsBetweenCalls middle
  pub does : Does 0 e (seen old.server) middle
  pub taken : told ≡ middle.outcomes

module _ {S A R : Type 0} {C : _} (e : Event A) (told : List (Entry A)) (middle : Seen A) (old : Answerer S A R C)
    (done : IsDone e told middle old) where
  lines_of : (l : Life) → IsAlive l old → told ≡ map (entry_at 0) (event_lines l.world e)
  lines_of l alive =
      done.taken ∙ (done.does l.world alive.at).outcomes
      ∙ ap (λ o. o ++ map (entry_at 0) (event_lines l.world e)) done.ready.taken

  pub are_answers : AreAnswers e told old
  are_answers l alive = lines_told told (event_lines l.world e) (lines_of l alive)

  -- steps leave how devices are set
  set_after : (new : Answerer S A R C) (l : Life) → new.settings ≡ old.settings → IsAlive l old
      → map without_counters new.settings.devices ≡ settings_of (doing e l).world.reg.devices
  set_after new l same alive =
      ap (λ s. map without_counters s.devices) same ∙ alive.set ∙ sym (keep_steps l.world (event_steps l.world e)).settings

  module _ (new : Answerer S A R C) (rest : seen new.server ≡ without_lines middle) where
    ready_again : IsReady new
    ready_again =
        record {
          between = subst (λ s. IsBetweenCalls s) (sym rest) done.between;
          taken = subst (λ (s : Seen A). s.outcomes ≡ []) (sym rest) refl;
        }

    world_after : (l : Life) → IsAlive l old → IsAt (reached l.world (event_steps l.world e)) (seen new.server)
    world_after l alive =
        subst (λ s. IsAt (reached l.world (event_steps l.world e)) s) (sym rest) (done.does l.world alive.at).at

    pub event_told : IsSameBeside (counts_with old.counts (counts_of told)) old new
        → new.text.writer.items ≡ old.text.writer.items ++ text_of (asked_line e ∷ entry_lines told)
        → Makes (after_event e) old new
    event_told same text =
        record {
          ready = ready_again;
          goes = λ l alive.
              record {
                at = world_after l alive;
                set = set_after new l same.set alive;
                known = same.known ∙ alive.known;
                kept = same.kept ∙ alive.kept;
                drops = same.drops ∙ alive.drops;
                told_at = same.told_at ∙ alive.told_at;
                counts = same.counts
                    ∙ ap (λ t. counts_with t (counts_of told)) alive.counts
                    ∙ ap (λ t. counts_with l.counts (counts_of t)) (lines_of l alive);
                text = rw (text, alive.text, texts_told told (event_lines l.world e) (lines_of l alive)) refl;
              };
        }

    -- nothing of it is told
    pub event_done : IsSameBeside old.counts old new → new.text.writer.items ≡ old.text.writer.items → Makes (doing e) old new
    event_done same text =
        record {
          ready = ready_again;
          goes = λ l alive.
              record {
                at = world_after l alive;
                set = set_after new l same.set alive;
                known = same.known ∙ alive.known;
                kept = same.kept ∙ alive.kept;
                drops = same.drops ∙ alive.drops;
                told_at = same.told_at ∙ alive.told_at;
                counts = same.counts ∙ alive.counts;
                text = text ∙ alive.text;
              };
        }

-- lines more are told, and nothing else changed
pub told_more : {S A R : Type 0} {C : _} (lines : List (List ℕ)) (old new : Answerer S A R C) → IsReady old
    → new.server ≡ old.server → IsSameBeside old.counts old new → new.text.writer.items ≡ old.text.writer.items ++ text_of lines
    → Makes (telling lines) old new
told_more lines old new ready server same text =
    record {
      ready = record {
        between = subst (λ s. IsBetweenCalls (seen s)) (sym server) ready.between;
        taken = subst (λ s. (seen s).outcomes ≡ []) (sym server) ready.taken;
      };
      goes = λ l alive.
          record {
            at = subst (λ s. IsAt l.world (seen s)) (sym server) alive.at;
            set = ap (λ s. map without_counters s.devices) same.set ∙ alive.set;
            known = same.known ∙ alive.known;
            kept = same.kept ∙ alive.kept;
            drops = same.drops ∙ alive.drops;
            told_at = same.told_at ∙ alive.told_at;
            counts = same.counts ∙ alive.counts;
            text = text ∙ ap (λ t. t ++ text_of lines) alive.text;
          };
    }

-- a copy that was taken in
pub copy_joined : {S A R : Type 0} {C : _} (e : Event A) (told : List (Entry A)) (eui : List ℕ) (place : ℕ) (n : Option ℕ)
    (old middle new : Answerer S A R C) → AreAnswers e told old → refusal_of (map (λ x. x.line) told) ≡ None
    → n ≡ number_in (map (λ x. x.line) told) → Makes (after_event e) old middle → Makes (joining place n) middle new
    → Makes (after_copy eui place e) old new
copy_joined e told eui place n old middle new answers none number first next =
    record {
      ready = next.ready;
      goes = λ l alive.
          let lines = answers l alive in
          rw (ap refusal_of (sym lines) ∙ none)
          (subst (λ x. IsAlive (joining place x (after_event e l)) new) (number ∙ ap number_in lines)
          (next.goes (after_event e l) (first.goes l alive)));
    }

-- a copy that was refused is counted
pub record IsSameButDrops {S A R : Type 0} {C : _} (name : List ℕ) (eui : Option (List ℕ)) (old new : Answerer S A R C) : Type 0 where
  pub server : new.server ≡ old.server
  pub set : new.settings ≡ old.settings
  pub known : new.forwarders.sessions.items ≡ old.forwarders.sessions.items
  pub kept : new.keeping ≡ old.keeping
  pub drops : new.drops.items ≡ dropped_by name eui old.drops.items
  pub told_at : new.told_at ≡ old.told_at
  pub counts : new.counts ≡ old.counts
  pub text : new.text.writer.items ≡ old.text.writer.items

pub copy_dropped : {S A R : Type 0} {C : _} (e : Event A) (told : List (Entry A)) (eui : List ℕ) (place : ℕ) (fault : DeskFault)
    (old middle new : Answerer S A R C) → AreAnswers e told old → refusal_of (map (λ x. x.line) told) ≡ Some fault
    → Makes (doing e) old middle → IsSameButDrops (hear_name fault) (Some eui) middle new → Makes (after_copy eui place e) old new
copy_dropped e told eui place fault old middle new answers refused first same =
    record {
      ready = record {
        between = subst (λ s. IsBetweenCalls (seen s)) (sym same.server) first.ready.between;
        taken = subst (λ s. (seen s).outcomes ≡ []) (sym same.server) first.ready.taken;
      };
      goes = λ l alive.
          let lines = answers l alive in
          let there = first.goes l alive in
          rw (ap refusal_of (sym lines) ∙ refused)
          (record {
            at = subst (λ s. IsAt (doing e l).world (seen s)) (sym same.server) there.at;
            set = ap (λ s. map without_counters s.devices) same.set ∙ there.set;
            known = same.known ∙ there.known;
            kept = same.kept ∙ there.kept;
            drops = same.drops ∙ ap (dropped_by (hear_name fault) (Some eui)) there.drops;
            told_at = same.told_at ∙ there.told_at;
            counts = same.counts ∙ there.counts;
            text = same.text ∙ there.text;
          });
    }
