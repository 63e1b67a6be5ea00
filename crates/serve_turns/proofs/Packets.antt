-- A packet that a gateway heard.
use Rattle.std.proofs.Common.{◌≡◌, ◌∙◌, Bool, ℕ, Option, Some, None, IfSome, ap, slice_get, slice_set, subst, sym, map}
use Rattle.std.proofs.lemmas.Option.{same_Some}
use Rattle.std.specs.Option.{option_map}
use Rattle.gateway_clock.specs.Clock.{heard}
use Rattle.forwarder_packets.specs.Entry.{Received}
use Rattle.forwarder_sessions.specs.declared.session.Forwarder.{Forwarder}
use Rattle.forwarder_sessions.specs.Sessions.{Known, heard_by}
use Rattle.server_core.specs.Server.{seen, IsAt}
use Rattle.serve_turns.specs.declared.answerer.Answerer.{Answerer}
use Rattle.serve_turns.specs.Devices.{without_counters}
use Rattle.serve_turns.specs.Life.{Life, IsAlive, Makes, after_copy, telling}
use Rattle.serve_turns.specs.Taking.{after_packet, after_packet_of, hear_event, hearing_by, session_lines}

-- a gateway's clock went on, and nothing else changed
pub record HasHeard {S A R : Type 0} {C : _} (now place tmst : ℕ) (k : Known) (old new : Answerer S A R C) : Type 0 where
  pub known : new.forwarders.sessions.items ≡ slice_set old.forwarders.sessions.items place (heard_by tmst now k)
  pub server : new.server ≡ old.server
  pub set : new.settings ≡ old.settings
  pub counts : new.counts ≡ old.counts
  pub kept : new.keeping ≡ old.keeping
  pub drops : new.drops.items ≡ old.drops.items
  pub told_at : new.told_at ≡ old.told_at
  pub text : new.text.writer.items ≡ old.text.writer.items

module _ {S A R : Type 0} {C : _} (now place : ℕ) (p : Received) (f : Forwarder) (at : ℕ) (is_new : Bool)
    (old middle told new : Answerer S A R C) where
  alive_then : (l : Life) (k : Known) → IsAlive l old → HasHeard now place p.tmst k old middle
      → IsAlive (hearing_by now place p.tmst k l) middle
  alive_then l k alive h =
      record {
        at = subst (λ s. IsAt l.world (seen s)) (sym h.server) alive.at;
        set = ap (λ s. map without_counters s.devices) h.set ∙ alive.set;
        known = h.known ∙ ap (λ ks. slice_set ks place (heard_by p.tmst now k)) alive.known;
        kept = h.kept ∙ alive.kept;
        drops = h.drops ∙ alive.drops;
        told_at = h.told_at ∙ alive.told_at;
        counts = h.counts ∙ alive.counts;
        text = h.text ∙ alive.text;
      }

  -- what is known of the gateway with this packet forwarder
  packet_of : (o : Option Known) → Some f ≡ option_map (λ k. k.forwarder) o
      → IfSome o (λ k. at ≡ (heard k.clock p.tmst now).at) → IfSome o (λ k. is_new ≡ (heard k.clock p.tmst now).is_new)
      → IfSome o (λ k. HasHeard now place p.tmst k old middle)
      → Makes (telling (session_lines is_new f.gateway at)) middle told
      → Makes (after_copy f.eui place (hear_event {A = A} f.gateway at now p)) told new
      → (l : Life) → IsAlive l old → IsAlive (after_packet_of A now place p o l) new
  packet_of None found placed session heard_so first next l alive = absurd (cc (found))
  packet_of (Some k) found placed session heard_so first next l alive =
      let own : f ≡ k.forwarder = same_Some _ _ found in
      let start = alive_then l k alive heard_so in
      let lives = next.goes _ (first.goes _ start) in
      subst (λ x. IsAlive (after_copy x.eui place (hear_event {A = A} x.gateway (heard k.clock p.tmst now).at now p)
      (telling (session_lines (heard k.clock p.tmst now).is_new x.gateway (heard k.clock p.tmst now).at)
      (hearing_by now place p.tmst k l))) new) own
      (subst (λ x. IsAlive (after_copy f.eui place (hear_event {A = A} f.gateway x now p)
      (telling (session_lines (heard k.clock p.tmst now).is_new f.gateway x) (hearing_by now place p.tmst k l))) new) placed
      (subst (λ x. IsAlive (after_copy f.eui place (hear_event {A = A} f.gateway at now p)
      (telling (session_lines x f.gateway at) (hearing_by now place p.tmst k l))) new) session lives))

  pub packet_made : Some f ≡ option_map (λ k. k.forwarder) (slice_get old.forwarders.sessions.items place)
      → IfSome (slice_get old.forwarders.sessions.items place) (λ k. at ≡ (heard k.clock p.tmst now).at)
      → IfSome (slice_get old.forwarders.sessions.items place) (λ k. is_new ≡ (heard k.clock p.tmst now).is_new)
      → IfSome (slice_get old.forwarders.sessions.items place) (λ k. HasHeard now place p.tmst k old middle)
      → Makes (telling (session_lines is_new f.gateway at)) middle told
      → Makes (after_copy f.eui place (hear_event {A = A} f.gateway at now p)) told new
      → Makes (after_packet A now place p) old new
  packet_made found placed session heard_so first next =
      record {
        ready = next.ready;
        goes = λ l alive.
            subst (λ ks. IsAlive (after_packet_of A now place p (slice_get ks place) l) new) alive.known
            (packet_of _ found placed session heard_so first next l alive);
      }
