use Rattle.std.proofs.Common.{ℕ, ◌≡◌, true, Bool, List, [], ◌∷◌, ◌++◌, Contains, Option, Some, None, ap, subst, sym, ◌∙◌}
use Rattle.forwarder_packets.specs.PullResp.{pull_resp_of}
use Rattle.forwarder_sessions.specs.declared.session.Endpoint.{Endpoint}
use Rattle.forwarder_sessions.specs.Sessions.{Known}
use Rattle.serve_journal.specs.declared.entry.Entry.{Entry}
use Rattle.serve_downlinks.specs.declared.fate.Fate.TheVariants.{Sendable}
use Rattle.serve_downlinks.specs.Downlinks.{ToSend}
use Rattle.serve_downlinks.specs.Fates.{fate_of}
use Rattle.serve_downlinks.specs.Datagram.{token_of, asked_for}
use Rattle.serve_downlinks.specs.Batch.{batch_entries, batch_text}
use Rattle.serve_turns.specs.Control.{Arrival}
use Rattle.serve_turns.specs.Effects.{Effect, Appends, Syncs, Sends}
use Rattle.serve_turns.specs.Kept.{Kept}
use Rattle.serve_turns.specs.Life.{Life}
use Rattle.serve_turns.specs.SendLaw.{EachIsSentOnce, EachSend, EverySendIsKept, IsBehindItsBatch, IsFrontOf, IsTold, behind_pass, pass_downlinks, resp_by, resps_in, resps_of}
use Rattle.serve_turns.specs.Sending.{known_then, sendable}
use Rattle.serve_turns.specs.Turn.{Answered, acts}

-- What the law says of a turn, from the law alone.

module _ (A : Type 0) (law : EverySendIsKept A) (now : ℕ) (came : Option Arrival) (r : Answered) (l : Life) where
  abbrev after : Life
  after = behind_pass A now came l

  abbrev answered : List ToSend
  answered = pass_downlinks A now came l

  of_effects : (effects : List Effect) → acts A now came r l ≡ effects
      → EachSend (λ done to bytes. IsBehindItsBatch now answered after done to bytes) [] effects
  of_effects effects does =
      subst (λ e. EachSend (λ done to bytes. IsBehindItsBatch now answered after done to bytes) [] e) does (law now came r l)

  -- a turn that adds a batch, has the disk keep it, and sends twice
  module _ (bytes first second : List ℕ) (to : Endpoint) (went : Bool)
      (does : acts A now came r l ≡ Appends bytes true ∷ Syncs true ∷ Sends to first went ∷ Sends to second true ∷ []) where
    abbrev front : List Effect
    front = Appends bytes true ∷ Syncs true ∷ []

    both : IsBehindItsBatch now answered after front to first
        × IsBehindItsBatch now answered after (front ++ Sends to first went ∷ []) to second
    both =
        let all = of_effects _ does in
        (all.0, all.1.0)

    -- the batch tells all that may be sent
    pub the_batch_tells_all : (k : Kept) × (before behind : List Effect) × (after.kept ≡ Some k)
        × (front ≡ before ++ (Appends (batch_text (batch_entries (known_then k now after) (sendable after.known answered))) true
        ∷ Syncs true ∷ behind))
    the_batch_tells_all =
        let it = both.0 in (
          it.kept,
          it.before,
          it.behind,
          it.keeps,
          it.written
              ∙ ap (λ es. it.before ++ (Appends (batch_text es) true ∷ Syncs true ∷ it.behind)) it.whole,
        )

    -- each is a PULL_RESP of a downlink of the pass, to the peer of its gateway
    pub first_is_asked_for : (d : ToSend) × (tmst : ℕ) × (power : ℕ) × Contains answered d
        × (fate_of d after.known ≡ Sendable to tmst power) × (first ≡ pull_resp_of (token_of d) (asked_for tmst power d))
    first_is_asked_for =
        let it = both.0 in
        (it.downlink, it.tmst, it.power_dbm, it.among, it.may, it.is)

    pub second_is_asked_for : (d : ToSend) × (tmst : ℕ) × (power : ℕ) × Contains answered d
        × (fate_of d after.known ≡ Sendable to tmst power) × (second ≡ pull_resp_of (token_of d) (asked_for tmst power d))
    second_is_asked_for =
        let it = both.1 in
        (it.downlink, it.tmst, it.power_dbm, it.among, it.may, it.is)

    -- a batch that was added and synced before tells it
    pub second_is_told : (d : ToSend) × (k : Kept) × (entries : List Entry) × (before behind : List Effect)
        × (after.kept ≡ Some k) × IsTold now k after d entries
        × (front ++ Sends to first went ∷ [] ≡ before ++ (Appends (batch_text entries) true ∷ Syncs true ∷ behind))
    second_is_told =
        let it = both.1 in
        (it.downlink, it.kept, it.batch, it.before, it.behind, it.keeps, it.told, it.written)

    -- and no write has failed
    pub none_has_failed : (k : Kept) × (after.kept ≡ Some k) × (k.failed_at ≡ None)
    none_has_failed =
        let it = both.0 in
        (it.kept, it.keeps, it.well)

  unsynced : (bytes : List ℕ) (before behind : List Effect) (x : List ℕ)
      → Appends bytes true ∷ [] ≡ before ++ (Appends x true ∷ Syncs true ∷ behind) → ⊥
  unsynced bytes [] behind x e = absurd (cc)
  unsynced bytes (b ∷ []) behind x e = absurd (cc)
  unsynced bytes (b ∷ c ∷ before) behind x e = absurd (cc)

  -- no turn sends behind a batch that the disk was not asked to keep
  pub none_is_sent_unsynced : (bytes datagram : List ℕ) (to : Endpoint) (went : Bool)
      → acts A now came r l ≡ Appends bytes true ∷ Sends to datagram went ∷ [] → ⊥
  none_is_sent_unsynced bytes datagram to went does =
      let all = of_effects _ does in
      unsynced bytes all.0.before all.0.behind (batch_text all.0.batch) all.0.written

-- What the other law says, from the law alone.

module _ (A : Type 0) (law : EachIsSentOnce A) (now : ℕ) (came : Option Arrival) (r : Answered) (l : Life) where
  front_of : (effects : List Effect) → acts A now came r l ≡ effects
      → IsFrontOf (resps_of (behind_pass A now came l).known (pass_downlinks A now came l)) (resps_in effects)
  front_of effects does =
      subst (λ e. IsFrontOf (resps_of (behind_pass A now came l).known (pass_downlinks A now came l)) (resps_in e)) does
      (law now came r l)

  two_of_one : (x y z : Endpoint × List ℕ) (rest : List (Endpoint × List ℕ)) → x ∷ [] ≡ (y ∷ z ∷ []) ++ rest → ⊥
  two_of_one x y z rest e = absurd (cc)

  other_first : (x y : Endpoint × List ℕ) (xs rest : List (Endpoint × List ℕ)) → x ∷ xs ≡ (y ∷ []) ++ rest → x ≡ y
  other_first x y xs rest e = cc

  -- no turn sends twice where one downlink alone may be sent
  pub one_is_sent_once : (x : Endpoint × List ℕ) (bytes first second : List ℕ) (to other : Endpoint) (went also : Bool)
      → resps_of (behind_pass A now came l).known (pass_downlinks A now came l) ≡ x ∷ []
      → acts A now came r l ≡ Appends bytes true ∷ Syncs true ∷ Sends to first went ∷ Sends other second also ∷ [] → ⊥
  one_is_sent_once x bytes first second to other went also one does =
      let it = front_of _ does in
      two_of_one x (to, first) (other, second) it.rest (sym one ∙ it.is)

  -- and what it sends first is the first that may be sent
  pub first_goes_first : (x : Endpoint × List ℕ) (xs : List (Endpoint × List ℕ)) (bytes first : List ℕ) (to : Endpoint) (went : Bool)
      → resps_of (behind_pass A now came l).known (pass_downlinks A now came l) ≡ x ∷ xs
      → acts A now came r l ≡ Appends bytes true ∷ Syncs true ∷ Sends to first went ∷ [] → x ≡ (to, first)
  first_goes_first x xs bytes first to went some does =
      let it = front_of _ does in
      other_first x (to, first) xs it.rest (sym some ∙ it.is)

-- a downlink that may be sent has one PULL_RESP
pub one_for_each : (known : List Known) (d : ToSend) (to : Endpoint) (tmst power : ℕ) → fate_of d known ≡ Sendable to tmst power
    → resps_of known (d ∷ []) ≡ (to, pull_resp_of (token_of d) (asked_for tmst power d)) ∷ []
one_for_each known d to tmst power may = ap (λ f. resp_by d f ++ []) may
