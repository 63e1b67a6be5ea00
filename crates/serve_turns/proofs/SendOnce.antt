-- Of no downlink two PULL_RESPs are sent.
use Rattle.std.proofs.Common.{◌≡◌, ◌∙◌, ◌++◌, Bool, true, false, List, [], ◌∷◌, ℕ, Option, Some, None, ap, append-nil, cond, is_some, map, refl, subst, sym, zip}
use Rattle.forwarder_packets.specs.PullResp.{pull_resp_of}
use Rattle.forwarder_sessions.specs.declared.session.Endpoint.{Endpoint}
use Rattle.forwarder_sessions.specs.Sessions.{Known}
use Rattle.server_desk.specs.Passing.{pass_answer}
use Rattle.serve_downlinks.specs.declared.fate.Fate.{Fate}
use Rattle.serve_downlinks.specs.declared.fate.Fate.TheVariants.{Barred, Unreachable, Sendable}
use Rattle.serve_downlinks.specs.Downlinks.{ToSend}
use Rattle.serve_downlinks.specs.Fates.{fate_of}
use Rattle.serve_downlinks.specs.Datagram.{token_of, asked_for}
use Rattle.serve_turns.specs.declared.command.Command.{Command}
use Rattle.serve_turns.specs.declared.command.Command.TheVariants.{Queue, Report}
use Rattle.serve_turns.specs.declared.sending.Written.{Written}
use Rattle.serve_turns.specs.declared.sending.Written.TheVariants.{NotAppended, NotSynced, Synced}
use Rattle.serve_turns.specs.Command.{command_of, is_control}
use Rattle.serve_turns.specs.Control.{Arrival, Need, Nothing, Failing, Batch, command_effects, control_effects, meeting_effects, need_for}
use Rattle.serve_turns.specs.Effects.{Effect, Packet, Receives, Rests, Shows, Acknowledges, Appends, Syncs, Replaces, Sends, Tells, Cuts}
use Rattle.serve_turns.specs.Kept.{Kept}
use Rattle.serve_turns.specs.Life.{Life}
use Rattle.serve_turns.specs.Sending.{Asked, Delivery, asked, asked_by, asking_effects, asking_effects_at, asking_effects_with, sending_effects_if_kept, sending_if, sent_one, writing}
use Rattle.serve_turns.specs.Renewing.{is_to_be_renewed, renewal_effects, renewing_effects, renewing_effects_if_kept}
use Rattle.serve_turns.specs.SendLaw.{EachIsSentOnce, IsFrontOf, before_pass, behind_pass, pass_downlinks, resp_by, resps_in, resps_of}
use Rattle.serve_turns.specs.Turn.{Answered, acts, answers_to, after_came, after_pass, after_report, answering_effects, pass_effects, replied, sent_back}

-- one part of the effects behind another

resps_append : (xs ys : List Effect) → resps_in (xs ++ ys) ≡ resps_in xs ++ resps_in ys
resps_append [] ys = refl
resps_append (Sends to b w ∷ xs) ys = ap (λ t. (to, b) ∷ t) (resps_append xs ys)
resps_append (Receives c ∷ xs) ys = resps_append xs ys
resps_append (Rests ∷ xs) ys = resps_append xs ys
resps_append (Shows c ∷ xs) ys = resps_append xs ys
resps_append (Acknowledges to b ∷ xs) ys = resps_append xs ys
resps_append (Appends b w ∷ xs) ys = resps_append xs ys
resps_append (Syncs w ∷ xs) ys = resps_append xs ys
resps_append (Replaces b w ∷ xs) ys = resps_append xs ys
resps_append (Tells b ∷ xs) ys = resps_append xs ys
resps_append (Cuts b ∷ xs) ys = resps_append xs ys

between : (xs ys zs : List Effect) → resps_in xs ≡ [] → resps_in zs ≡ [] → resps_in ((xs ++ ys) ++ zs) ≡ resps_in ys
between xs ys zs before behind =
    resps_append (xs ++ ys) zs ∙ ap (λ t. resps_in (xs ++ ys) ++ t) behind ∙ append-nil (resps_in (xs ++ ys)) ∙ resps_append xs ys
    ∙ ap (λ t. t ++ resps_in ys) before

-- what is no PULL_RESP

none_back : (to : Endpoint) (o : Option (List ℕ)) → resps_in (sent_back to o) ≡ []
none_back to None = refl
none_back to (Some b) = refl

none_met : (w : Written) (need : Need) (source : Endpoint) (reply : List ℕ)
    → resps_in (meeting_effects w need ++ Acknowledges source reply ∷ []) ≡ []
none_met w Nothing source reply = refl
none_met w Failing source reply = refl
none_met NotAppended (Batch batch) source reply = refl
none_met NotSynced (Batch batch) source reply = refl
none_met Synced (Batch batch) source reply = refl

none_commanded : {A : Type 0} (now : ℕ) (source : Endpoint) (o : Option (Command A)) (w : Written) (l : Life)
    → resps_in (command_effects now source o w l) ≡ []
none_commanded now source None w l = refl
none_commanded now source (Some Report) w l = refl
none_commanded now source (Some (Queue q)) w l = none_met w (need_for q l) source _

none_arrived : (A : Type 0) (now : ℕ) (p : Packet) (w : Written) (l : Life) (t : Bool)
    → resps_in (cond t (control_effects A now p w l) (answers_to now p l)) ≡ []
none_arrived A now p w l true = none_commanded {A = A} now p.source (command_of p.bytes) w l
none_arrived A now p w l false = none_back _ _

none_replied : (A : Type 0) (now : ℕ) (came : Option Arrival) (l : Life) → resps_in (replied A now came l) ≡ []
none_replied A now None l = refl
none_replied A now (Some a) l = none_arrived A now a.packet a.written l (is_control a.packet)

none_renewing : (now : ℕ) (is : Bool) (o : Option Kept) (l : Life) → resps_in (renewing_effects_if_kept now is o l) ≡ []
none_renewing now is None l = refl
none_renewing now is (Some k) l = refl

none_renewal_if : (now : ℕ) (is t : Bool) (l : Life) → resps_in (cond t (renewing_effects now is l) []) ≡ []
none_renewal_if now is true l = none_renewing now is l.kept l
none_renewal_if now is false l = refl

none_renewal : (now : ℕ) (is : Bool) (l : Life) → resps_in (renewal_effects now is l) ≡ []
none_renewal now is l = none_renewal_if now is (is_to_be_renewed now l.kept) l

-- the downlinks of a pass

abbrev resp_of : Asked → Endpoint × List ℕ
resp_of a = (a.peer, a.bytes)

none_of : {X : Type 0} (whole : List X) → IsFrontOf whole []
none_of whole = record { rest = whole; is = refl }

front_sent : (asks : List Asked) (went : List Bool) → IsFrontOf (map resp_of asks) (resps_in (map sent_one (zip asks went)))
front_sent [] went = none_of []
front_sent (a ∷ asks) [] = none_of (map resp_of (a ∷ asks))
front_sent (a ∷ asks) (w ∷ went) =
    let it = front_sent asks went in
    record { rest = it.rest; is = ap (λ t. resp_of a ∷ t) it.is }

front_delivered : (written : Written) (batch : List ℕ) (asks : List Asked) (went : List Bool)
    → IsFrontOf (map resp_of asks) (resps_in (writing written batch ++ sending_if written (zip asks went)))
front_delivered NotAppended batch asks went = none_of (map resp_of asks)
front_delivered NotSynced batch asks went = none_of (map resp_of asks)
front_delivered Synced batch asks went = front_sent asks went

module _ (now : ℕ) (d : Delivery) (ds : List ToSend) where
  front_at : (asks : List Asked) (k : Kept) (o : Option ℕ) (l : Life)
      → IsFrontOf (map resp_of asks) (resps_in (asking_effects_at now d ds asks k o l))
  front_at asks k None l = front_delivered d.written _ asks d.went
  front_at asks k (Some at) l = none_of (map resp_of asks)

  front_asked : (asks : List Asked) (k : Kept) (l : Life) → IsFrontOf (map resp_of asks) (resps_in (asking_effects now d ds asks k l))
  front_asked [] k l = none_of []
  front_asked (a ∷ asks) k l = front_at (a ∷ asks) k k.failed_at l

  front_with : (asks : List Asked) (o : Option Kept) (l : Life)
      → IsFrontOf (map resp_of asks) (resps_in (asking_effects_with now d ds asks o l))
  front_with asks None l = none_of (map resp_of asks)
  front_with asks (Some k) l = front_asked asks k l

resps_by : (known : List Known) (d : ToSend) (ds : List ToSend) (f : Fate) → map resp_of (asked known ds) ≡ resps_of known ds
    → map resp_of (asked_by d f ++ asked known ds) ≡ resp_by d f ++ resps_of known ds
resps_by known d ds Barred others = others
resps_by known d ds Unreachable others = others
resps_by known d ds (Sendable to tmst power) others =
    ap (λ t. (to, pull_resp_of (token_of d) (asked_for tmst power d)) ∷ t) others

resps_asked : (known : List Known) (ds : List ToSend) → map resp_of (asked known ds) ≡ resps_of known ds
resps_asked known [] = refl
resps_asked known (d ∷ ds) = resps_by known d ds (fate_of d known) (resps_asked known ds)

front_if_kept : (now : ℕ) (d : Delivery) (ds : List ToSend) (o : Option Kept) (l : Life)
    → IsFrontOf (resps_of l.known ds) (resps_in (sending_effects_if_kept now d ds o l))
front_if_kept now d ds None l = none_of (resps_of l.known ds)
front_if_kept now d ds (Some k) l =
    subst (λ whole. IsFrontOf whole (resps_in (sending_effects_if_kept now d ds (Some k) l))) (resps_asked l.known ds)
    (front_with now d _ (asked l.known ds) _ _)

-- of a turn

module _ (A : Type 0) (now : ℕ) (came : Option Arrival) (r : Answered) (l : Life) where
  abbrev whole : List (Endpoint × List ℕ)
  whole = resps_of (behind_pass A now came l).known (pass_downlinks A now came l)

  front_passed_if : (t : Bool)
      → IsFrontOf whole (resps_in (cond t (answering_effects A now r.delivery (before_pass A now came l)) []))
  front_passed_if true =
      front_if_kept now r.delivery (pass_downlinks A now came l) (behind_pass A now came l).kept (behind_pass A now came l)
  front_passed_if false = none_of whole

  front_passed : IsFrontOf whole (resps_in (pass_effects A now r.delivery (after_came A now came l)))
  front_passed = front_passed_if (is_some (pass_answer (after_came A now came l).world.reg now))

  front_acted : IsFrontOf whole (resps_in (acts A now came r l))
  front_acted =
      let passed = pass_effects A now r.delivery (after_came A now came l) in
      let behind = after_report now (after_pass A now r.delivery (after_came A now came l)) in
      subst (λ resps. IsFrontOf whole resps)
      (sym (between (replied A now came l) passed (renewal_effects now r.renewed behind) (none_replied A now came l)
      (none_renewal now r.renewed behind)))
      front_passed

pub each_is_sent_once : (A : Type 0) → EachIsSentOnce A
each_is_sent_once A now came r l = front_acted A now came r l
