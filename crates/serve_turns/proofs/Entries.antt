-- Packets, and gateways, one after another.
use Rattle.std.proofs.Common.{◌≡◌, ◌++◌, ◌<◌, ◌+◌, ◌∙◌, List, [], ◌∷◌, ℕ, zero, suc, arith, Option, Some, None, IfSome, refl, ap, get_or, length, map, slice_get, sym, take}
use Rattle.std.proofs.lemmas.List.{map-append, take_more}
use Rattle.std.proofs.lemmas.Option.{get_or_from_slice_get}
use Rattle.forwarder_packets.specs.declared.packet.Entry.{Entry}
use Rattle.forwarder_packets.specs.Entries.{Read}
use Rattle.forwarder_packets.specs.Seen.{received}
use Rattle.forwarder_sessions.specs.Sessions.{Known}
use Rattle.serve_turns.specs.declared.answerer.Answerer.{Answerer}
use Rattle.serve_journal.specs.Payload.{Waiting}
use Rattle.serve_turns.specs.Life.{Life, Makes}
use Rattle.serve_turns.specs.Queues.{after_queue, after_queues}
use Rattle.serve_turns.specs.Taking.{after_entry, after_entries}
use Rattle.serve_turns.specs.Turn.{after_tick, after_ticks}
use Rattle.serve_turns.proofs.Lives.{makes_then, makes_same}

entries_more : (A : Type 0) (now place : ℕ) (rs : List Read) (r : Read) (l : Life)
    → after_entries A now place (rs ++ r ∷ []) l ≡ after_entry A now place r (after_entries A now place rs l)
entries_more A now place [] r l = refl
entries_more A now place (x ∷ rs) r l = entries_more A now place rs r (after_entry A now place x l)

ticks_more : (A : Type 0) (now : ℕ) (ks : List Known) (k : Known) (l : Life)
    → after_ticks A now (ks ++ k ∷ []) l ≡ after_tick A now k (after_ticks A now ks l)
ticks_more A now [] k l = refl
ticks_more A now (x ∷ ks) k l = ticks_more A now ks k (after_tick A now x l)

past : {X : Type 0} (xs : List X) (i : ℕ) → i < length xs → slice_get xs i ≡ None → ⊥
past [] i within none = absurd (omega (arith, within))
past (x ∷ xs) zero within none = cc (none)
past (x ∷ xs) (suc i) within none = past xs i (omega (arith, within)) none

-- one packet more
pub entries_next : {S A R : Type 0} {C : _} {B : Type 0} (now place : ℕ) (es : List (Entry B)) (e : Entry B)
    (a b c : Answerer S A R C) → Makes (after_entries A now place (map received es)) a b
    → Makes (after_entry A now place (received e)) b c → Makes (after_entries A now place (map received (es ++ e ∷ []))) a c
entries_next {A = A} now place es e a b c made next =
    makes_same (λ l. after_entry A now place (received e) (after_entries A now place (map received es) l))
    (after_entries A now place (map received (es ++ e ∷ []))) a c
    (λ l. sym (entries_more A now place (map received es) (received e) l)
    ∙ ap (λ rs. after_entries A now place rs l) (sym (map-append received es (e ∷ []))))
    (makes_then (after_entries A now place (map received es)) (after_entry A now place (received e)) a b c made next)

-- one gateway more
pub ticks_next : {S A R : Type 0} {C : _} (now : ℕ) (ks : List Known) (i : ℕ) (k : Known) (a b c : Answerer S A R C)
    → i < length ks → k ≡ get_or ks i k → Makes (after_ticks A now (take i ks)) a b → Makes (after_tick A now k) b c
    → Makes (after_ticks A now (take (i + 1) ks)) a c
ticks_next {A = A} now ks i k a b c within is made next =
    makes_same (λ l. after_tick A now k (after_ticks A now (take i ks) l)) (after_ticks A now (take (i + 1) ks)) a c
    (λ l. sym (ticks_more A now (take i ks) k l)
    ∙ ap (λ x. after_ticks A now x l) (sym (take_more ks i k within ∙ ap (λ x. take i ks ++ x ∷ []) (sym is))))
    (makes_then (after_ticks A now (take i ks)) (after_tick A now k) a b c made next)

-- the same of the gateway at a place
module _ {S A R : Type 0} {C : _} (now : ℕ) (ks : List Known) (i : ℕ) (a b c : Answerer S A R C) (within : i < length ks)
    (made : Makes (after_ticks A now (take i ks)) a b) where
  ticks_found : (o : Option Known) → slice_get ks i ≡ o → IfSome o (λ k. Makes (after_tick A now k) b c)
      → Makes (after_ticks A now (take (i + 1) ks)) a c
  ticks_found None is next = absurd (past ks i within is)
  ticks_found (Some k) is next = ticks_next now ks i k a b c within (sym (get_or_from_slice_get ks i k k is)) made next

  pub ticks_at : IfSome (slice_get ks i) (λ k. Makes (after_tick A now k) b c) → Makes (after_ticks A now (take (i + 1) ks)) a c
  ticks_at next = ticks_found (slice_get ks i) refl next

-- one payload more

queues_more : (A : Type 0) (qs : List (ℕ × Waiting)) (q : ℕ × Waiting) (l : Life)
    → after_queues A (qs ++ q ∷ []) l ≡ after_queue A q (after_queues A qs l)
queues_more A [] q l = refl
queues_more A (x ∷ qs) q l = queues_more A qs q (after_queue A x l)

pub queues_next : {S A R : Type 0} {C : _} (qs : List (ℕ × Waiting)) (q : ℕ × Waiting) (a b c : Answerer S A R C)
    → Makes (after_queues A qs) a b → Makes (after_queue A q) b c → Makes (after_queues A (qs ++ q ∷ [])) a c
queues_next {A = A} qs q a b c made next =
    makes_same (λ l. after_queue A q (after_queues A qs l)) (after_queues A (qs ++ q ∷ [])) a c
    (λ l. sym (queues_more A qs q l)) (makes_then (after_queues A qs) (after_queue A q) a b c made next)

-- nothing of them is told
pub queues_untold : (A : Type 0) (qs : List (ℕ × Waiting)) (l : Life) → (after_queues A qs l).text ≡ l.text
queues_untold A [] l = refl
queues_untold A (q ∷ qs) l = queues_untold A qs (after_queue A q l)
