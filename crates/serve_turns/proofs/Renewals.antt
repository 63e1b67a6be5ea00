-- A journal that is written anew.
use Rattle.std.proofs.Common.{◌≡◌, ◌∙◌, Bool, true, false, List, [], ◌∷◌, ℕ, Option, Some, ap, cond, length, subst, sym, map}
use Rattle.server_core.specs.Server.{seen, IsAt, IsBetweenCalls}
use Rattle.serve_journal.specs.Renewal.{renewal_text}
use Rattle.serve_downlinks.specs.Batch.{knows}
use Rattle.serve_renewal.specs.State.{state_of}
use Rattle.serve_turns.specs.declared.answerer.Answerer.{Answerer}
use Rattle.serve_turns.specs.Devices.{without_counters}
use Rattle.serve_turns.specs.Effects.{Effect, Adds, AddsFront, Replaces}
use Rattle.serve_turns.specs.Kept.{Kept, kept_after}
use Rattle.serve_turns.specs.Life.{IsAlive, IsReady}
use Rattle.serve_turns.specs.Renewing.{after_renewal, is_to_be_renewed, journal_at, renewal_effects, renewing, renewing_if_kept, renewing_effects, renewing_effects_if_kept}
use Rattle.serve_turns.specs.Turn.{Did, Broke}
use Rattle.serve_turns.proofs.Effects.{adds_none}
use Rattle.serve_turns.proofs.Known.{journal_same}
use Rattle.serve_turns.proofs.Parts.{nothing_front}

-- all but what is known of the journal is the same
pub record IsSameButKept {S A R : Type 0} {C : _} (old new : Answerer S A R C) : Type 0 where
  pub server : new.server ≡ old.server
  pub set : new.settings ≡ old.settings
  pub counts : new.counts ≡ old.counts
  pub known : new.forwarders.sessions.items ≡ old.forwarders.sessions.items
  pub drops : new.drops.items ≡ old.drops.items
  pub told_at : new.told_at ≡ old.told_at
  pub text : new.text.writer.items ≡ old.text.writer.items

pub ready_same : {S A R : Type 0} {C : _} (old new : Answerer S A R C) → new.server ≡ old.server → IsReady old → IsReady new
ready_same old new same ready =
    record {
      between = subst (λ s. IsBetweenCalls (seen s)) (sym same) ready.between;
      taken = subst (λ s. (seen s).outcomes ≡ []) (sym same) ready.taken;
    }

module _ {S A R : Type 0} {C : _} (h0 h1 : Option (List Effect)) (now : ℕ) (old new : Answerer S A R C) where
  pub renewed : (k : Kept) (bytes : List ℕ) (done : Bool) → IsReady old → old.keeping ≡ Some k
      → bytes ≡ renewal_text (state_of (knows (seen old.server) old.forwarders.sessions.items k.sessions now))
      → Adds h0 h1 (Replaces bytes done ∷ []) → new.keeping ≡ Some (kept_after now done (length bytes) k) → IsSameButKept old new
      → Did h0 h1 (renewing now) (renewing_effects now) old new
  renewed k bytes done ready keeps is adds kept same =
      record {
        how = done;
        ready = ready_same old new same.server ready;
        lives = λ l alive.
            let has : l.kept ≡ Some k = sym alive.kept ∙ keeps in
            let text : bytes ≡ journal_at now k l = is ∙ journal_same old k now l alive in
            subst (λ o. IsAlive (renewing_if_kept now done o l) new) (sym has)
            (record {
              at = subst (λ s. IsAt l.world (seen s)) (sym same.server) alive.at;
              set = ap (λ s. map without_counters s.devices) same.set ∙ alive.set;
              known = same.known ∙ alive.known;
              kept = kept ∙ ap (λ b. Some (kept_after now done (length b) k)) text;
              drops = same.drops ∙ alive.drops;
              told_at = same.told_at ∙ alive.told_at;
              counts = same.counts ∙ alive.counts;
              text = same.text ∙ alive.text;
            });
        effects = λ l alive.
            let has : l.kept ≡ Some k = sym alive.kept ∙ keeps in
            let text : bytes ≡ journal_at now k l = is ∙ journal_same old k now l alive in
            subst (λ o. Adds h0 h1 (renewing_effects_if_kept now done o l)) (sym has)
            (subst (λ b. Adds h0 h1 (Replaces b done ∷ [])) text adds);
      }

  -- where it is to be done
  pub renewed_due : is_to_be_renewed now old.keeping ≡ true → Did h0 h1 (renewing now) (renewing_effects now) old new
      → Did h0 h1 (after_renewal now) (renewal_effects now) old new
  renewed_due due d =
      record {
        how = d.how;
        ready = d.ready;
        lives = λ l alive.
            let is : is_to_be_renewed now l.kept ≡ true = ap (is_to_be_renewed now) (sym alive.kept) ∙ due in
            subst (λ b. IsAlive (cond b (renewing now d.how l) l) new) (sym is) (d.lives l alive);
        effects = λ l alive.
            let is : is_to_be_renewed now l.kept ≡ true = ap (is_to_be_renewed now) (sym alive.kept) ∙ due in
            subst (λ b. Adds h0 h1 (cond b (renewing_effects now d.how l) [])) (sym is) (d.effects l alive);
      }

  pub broke_due : is_to_be_renewed now old.keeping ≡ true → Broke h0 h1 (renewing_effects now) old
      → Broke h0 h1 (renewal_effects now) old
  broke_due due b =
      record {
        how = b.how;
        effects = λ l alive.
            let is : is_to_be_renewed now l.kept ≡ true = ap (is_to_be_renewed now) (sym alive.kept) ∙ due in
            subst (λ t. AddsFront h0 h1 (cond t (renewing_effects now b.how l) [])) (sym is) (b.effects l alive);
      }

-- nothing was written for want of memory
pub renewal_broke : {S A R : Type 0} {C : _} (h : Option (List Effect)) (now : ℕ) (old : Answerer S A R C)
    → Broke h h (renewing_effects now) old
renewal_broke h now old = record { how = false; effects = λ l alive. nothing_front h (renewing_effects now false l) }

-- where it is not to be done
pub not_due : {S A R : Type 0} {C : _} (h : Option (List Effect)) (now : ℕ) (a : Answerer S A R C) → IsReady a
    → is_to_be_renewed now a.keeping ≡ false → Did h h (after_renewal now) (renewal_effects now) a a
not_due h now a ready due =
    record {
      how = false;
      ready = ready;
      lives = λ l alive.
          let is : is_to_be_renewed now l.kept ≡ false = ap (is_to_be_renewed now) (sym alive.kept) ∙ due in
          subst (λ b. IsAlive (cond b (renewing now false l) l) a) (sym is) alive;
      effects = λ l alive.
          let is : is_to_be_renewed now l.kept ≡ false = ap (is_to_be_renewed now) (sym alive.kept) ∙ due in
          subst (λ b. Adds h h (cond b (renewing_effects now false l) [])) (sym is) (adds_none h);
    }
