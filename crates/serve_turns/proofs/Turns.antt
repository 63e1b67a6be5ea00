-- A turn.
use Rattle.std.proofs.Common.{◌≡◌, ◌≤◌, ◌++◌, ◌∙◌, ◌^◌, Bool, true, List, [], ◌∷◌, ℕ, Option, Some, None, ap, refl, subst, sym, map}
use Rattle.server_core.specs.Server.{seen, IsAt, IsBetweenCalls}
use Rattle.serve_turns.specs.declared.serving.Serving.{Serving}
use Rattle.serve_turns.specs.declared.sending.Written.{Written}
use Rattle.serve_turns.specs.Devices.{without_counters}
use Rattle.serve_turns.specs.Control.{arrival, packet_of_arrival}
use Rattle.serve_turns.specs.Effects.{Effect, Packet, Shows, Cuts, Adds, AddsFront}
use Rattle.serve_turns.specs.Life.{Life, IsAlive, IsReady}
use Rattle.serve_turns.specs.Turn.{HasActed, HasBroken, IsBroken, IsCut, IsTold, IsTurn, IsUntold, begun, rests, told_text, turned, turned_effects, waits, without_text}
use Rattle.serve_turns.proofs.Effects.{adds_then}
use Rattle.serve_turns.proofs.Parts.{front_then}

-- what came and what the clock showed, before all else
begun_then : (h0 h1 h2 h3 : Option (List Effect)) (resting : Bool) (now : ℕ) (came : Option Packet) (more : List Effect)
    → Adds h0 h1 (waits resting came ∷ []) → Adds h1 h2 (Shows (Some now) ∷ []) → Adds h2 h3 more
    → Adds h0 h3 (begun resting now came more)
begun_then h0 h1 h2 h3 resting now came more seen_first shown rest =
    adds_then h0 h1 h3 (waits resting came ∷ []) (Shows (Some now) ∷ more) seen_first
    (adds_then h1 h2 h3 (Shows (Some now) ∷ []) more shown rest)

-- nothing came, so no arrival did
no_arrival : (came : Option Packet) (w : Written) → came ≡ None → arrival came w ≡ None
no_arrival came w none = ap (λ c. arrival c w) none

-- the datagram of an arrival is the one that came
came_back : (came : Option Packet) (w : Written) → packet_of_arrival (arrival came w) ≡ came
came_back None w = refl
came_back (Some p) w = refl

module _ {S A R : Type 0} {C : _} (came : Option Packet) (now : ℕ) (old middle new : Serving S A R C)
    (h0 h1 h2 h3 h4 : Option (List Effect)) (silent : rests old ≡ true → came ≡ None)
    (told : IsTold h3 h4 middle.answerer new.answerer) where
  ready_still : IsReady middle.answerer → IsReady new.answerer
  ready_still r =
      record {
        between = subst (λ s. IsBetweenCalls (seen s)) (sym told.server) r.between;
        taken = subst (λ s. (seen s).outcomes ≡ []) (sym told.server) r.taken;
      }

  alive_still : (l : Life) → IsAlive l middle.answerer → IsAlive (without_text l) new.answerer
  alive_still l alive =
      record {
        at = subst (λ s. IsAt l.world (seen s)) (sym told.server) alive.at;
        set = ap (λ s. map without_counters s.devices) told.settings ∙ alive.set;
        known = ap (λ f. f.sessions.items) told.known ∙ alive.known;
        kept = told.kept ∙ alive.kept;
        drops = ap (λ d. d.items) told.drops ∙ alive.drops;
        told_at = told.told_at ∙ alive.told_at;
        counts = told.counts ∙ alive.counts;
        text = told.none;
      }

  pub turn_made : Adds h0 h1 (waits (rests old) came ∷ []) → Adds h1 h2 (Shows (Some now) ∷ []) → now ≤ 2 ^ 60
      → HasActed now came h2 h3 old.answerer middle.answerer → IsTurn h0 h4 old new
  turn_made seen_first shown early acted =
      record {
        came = arrival came acted.how.0;
        now = now;
        early = early;
        silent = λ r. no_arrival came acted.how.0 (silent r);
        answered = acted.how.1;
        between = record { ready = ready_still acted.ready; told = told.none };
        lives = λ l alive. alive_still (turned A now came acted.how l) (acted.lives l alive);
        effects = λ l alive.
            let more = turned_effects A now came acted.how l ++ told_text (turned A now came acted.how l).text in
            subst (λ c. Adds h0 h4 (begun (rests old) now c more)) (sym (came_back came acted.how.0))
            (begun_then h0 h1 h2 h4 (rests old) now came more seen_first shown
            (adds_then h2 h3 h4 (turned_effects A now came acted.how l) (told_text (turned A now came acted.how l).text)
            (acted.effects l alive) (subst (λ t. Adds h3 h4 (told_text t)) (acted.lives l alive).text told.told)));
      }

-- a turn whose lines were not told whole
pub turn_cut : {S A R : Type 0} {C : _} (came : Option Packet) (now : ℕ) (old middle : Serving S A R C)
    (h0 h1 h2 h3 h4 : Option (List Effect)) → (rests old ≡ true → came ≡ None) → IsCut h3 h4 middle.answerer
    → Adds h0 h1 (waits (rests old) came ∷ [])
    → Adds h1 h2 (Shows (Some now) ∷ []) → now ≤ 2 ^ 60 → HasActed now came h2 h3 old.answerer middle.answerer → IsUntold h0 h4 old
turn_cut {A = A} came now old middle h0 h1 h2 h3 h4 silent cut seen_first shown early acted =
    record {
      came = arrival came acted.how.0;
      now = now;
      early = early;
      silent = λ r. no_arrival came acted.how.0 (silent r);
      answered = acted.how.1;
      untold = λ l alive.
          let text = (acted.lives l alive).text in
          let more = turned_effects A now came acted.how l ++ Cuts (turned A now came acted.how l).text ∷ [] in
          record {
            some = λ none. cut.some (text ∙ none);
            effects = subst (λ c. Adds h0 h4 (begun (rests old) now c more)) (sym (came_back came acted.how.0))
                (begun_then h0 h1 h2 h4 (rests old) now came more seen_first shown
                (adds_then h2 h3 h4 (turned_effects A now came acted.how l) (Cuts (turned A now came acted.how l).text ∷ [])
                (acted.effects l alive) (subst (λ t. Adds h3 h4 (Cuts t ∷ [])) text cut.cut)));
          };
    }

-- a turn that broke for want of memory
pub turn_broken : {S A R : Type 0} {C : _} (came : Option Packet) (now : ℕ) (old : Serving S A R C)
    (h0 h1 h2 h3 : Option (List Effect)) → (rests old ≡ true → came ≡ None) → Adds h0 h1 (waits (rests old) came ∷ []) → Adds h1 h2 (Shows (Some now) ∷ []) → now ≤ 2 ^ 60
    → HasBroken now came h2 h3 old.answerer → IsBroken h0 h3 old
turn_broken {A = A} came now old h0 h1 h2 h3 silent seen_first shown early broken =
    record {
      came = arrival came broken.how.0;
      now = now;
      early = early;
      silent = λ r. no_arrival came broken.how.0 (silent r);
      answered = broken.how.1;
      effects = λ l alive.
          let does = turned_effects A now came broken.how l in
          subst (λ c. AddsFront h0 h3 (begun (rests old) now c does)) (sym (came_back came broken.how.0))
          (front_then h0 h1 h3 (waits (rests old) came ∷ []) (Shows (Some now) ∷ does) seen_first
          (front_then h1 h2 h3 (Shows (Some now) ∷ []) does shown (broken.effects l alive)));
    }
