-- Each PULL_RESP is sent behind its batch.
use Rattle.std.proofs.Common.{◌≡◌, ◌++◌, Bool, true, false, List, [], ◌∷◌, ℕ, zero, suc, Contains, Option, Some, None, ap, append_assoc, append-nil, arith, cond, filter, is_some, map, refl, subst, sym, zip}
use Rattle.std.specs.Option.{option_map}
use Rattle.forwarder_packets.specs.PullResp.{pull_resp_of}
use Rattle.forwarder_sessions.specs.declared.session.Endpoint.{Endpoint}
use Rattle.server_desk.specs.Passing.{pass_answer}
use Rattle.serve_journal.specs.declared.entry.Entry.{Entry}
use Rattle.serve_downlinks.specs.declared.fate.Fate.{Fate}
use Rattle.serve_downlinks.specs.declared.fate.Fate.TheVariants.{Barred, Unreachable, Sendable}
use Rattle.serve_downlinks.specs.Downlinks.{ToSend}
use Rattle.serve_downlinks.specs.Fates.{fate_of}
use Rattle.serve_downlinks.specs.Datagram.{token_of, asked_for}
use Rattle.serve_downlinks.specs.Batch.{batch_entries, batch_text}
use Rattle.serve_downlinks.proofs.BatchLaw.{batches_tell_what_is_sent}
use Rattle.serve_turns.specs.declared.command.Command.{Command}
use Rattle.serve_turns.specs.declared.command.Command.TheVariants.{Queue, Report}
use Rattle.serve_turns.specs.declared.sending.Written.{Written}
use Rattle.serve_turns.specs.declared.sending.Written.TheVariants.{NotAppended, NotSynced, Synced}
use Rattle.serve_turns.specs.Command.{command_of, is_control}
use Rattle.serve_turns.specs.Control.{Arrival, Need, Nothing, Failing, Batch, command_effects, control_effects, meeting_effects, need_for}
use Rattle.serve_turns.specs.Effects.{Effect, Packet, Receives, Rests, Shows, Acknowledges, Appends, Syncs, Replaces, Sends, Tells, Cuts}
use Rattle.serve_turns.specs.Kept.{Kept, with_kept_back}
use Rattle.serve_turns.specs.Life.{Life}
use Rattle.serve_turns.specs.Sending.{Asked, Delivery, after_kept_back, asked, asked_by, asking_effects, asking_effects_at, asking_effects_with, is_sendable, known_then, sendable, sending_effects_if_kept, sending_if, sent_one, some_kept_back, writing}
use Rattle.serve_turns.specs.Renewing.{is_to_be_renewed, renewal_effects, renewing_effects, renewing_effects_if_kept}
use Rattle.serve_turns.specs.SendLaw.{EachSend, EverySendIsKept, IsBehindItsBatch, before_pass, behind_pass, pass_downlinks}
use Rattle.serve_turns.specs.Turn.{Answered, acts, answers_to, after_came, after_pass, after_report, answering_effects, pass_effects, replied, sent_back}

-- members

head_in : {X : Type 0} (x : X) (xs : List X) → Contains (x ∷ xs) x
head_in x xs = (0, omega arith, refl)

tail_in : {X : Type 0} (x y : X) (xs : List X) → Contains xs y → Contains (x ∷ xs) y
tail_in x y xs (k, within, is) = (suc k, omega (arith, within), is)

kept_in : {X : Type 0} (p : X → Bool) (x y : X) (xs : List X) (t : Bool) → p x ≡ t → Contains (filter p xs) y
    → Contains (filter p (x ∷ xs)) y
kept_in p x y xs true is there = rw is (tail_in x y (filter p xs) there)
kept_in p x y xs false is there = rw is there

filter_in : {X : Type 0} (p : X → Bool) (xs : List X) (x : X) → p x ≡ true → Contains xs x → Contains (filter p xs) x
filter_in p [] x passes (k, within, is) = absurd (omega (arith, within))
filter_in p (y ∷ xs) x passes (zero, within, is) =
    subst (λ v. Contains (filter p (v ∷ xs)) x) (sym is) (rw passes (head_in x (filter p xs)))
filter_in p (y ∷ xs) x passes (suc k, within, is) =
    kept_in p y x xs (p y) refl (filter_in p xs x passes (k, omega (arith, within), is))

-- effects one upon the other

module _ (P : List Effect → Endpoint → List ℕ → Type 0) where
  moved : (done : List Effect) (e : Effect) (more rest : List Effect) → EachSend P (done ++ e ∷ more) rest
      → EachSend P ((done ++ e ∷ []) ++ more) rest
  moved done e more rest h = subst (λ l. EachSend P l rest) (sym (append_assoc done (e ∷ []) more)) h

  each_append : (done xs ys : List Effect) → EachSend P done xs → EachSend P (done ++ xs) ys → EachSend P done (xs ++ ys)
  each_append done [] ys h t = subst (λ l. EachSend P l ys) (append-nil done) t
  each_append done (Sends to b w ∷ xs) ys h t =
      (h.0, each_append (done ++ Sends to b w ∷ []) xs ys h.1 (moved done (Sends to b w) xs ys t))
  each_append done (Receives c ∷ xs) ys h t = each_append (done ++ Receives c ∷ []) xs ys h (moved done (Receives c) xs ys t)
  each_append done (Rests ∷ xs) ys h t = each_append (done ++ Rests ∷ []) xs ys h (moved done Rests xs ys t)
  each_append done (Shows c ∷ xs) ys h t = each_append (done ++ Shows c ∷ []) xs ys h (moved done (Shows c) xs ys t)
  each_append done (Acknowledges to b ∷ xs) ys h t =
      each_append (done ++ Acknowledges to b ∷ []) xs ys h (moved done (Acknowledges to b) xs ys t)
  each_append done (Appends b w ∷ xs) ys h t = each_append (done ++ Appends b w ∷ []) xs ys h (moved done (Appends b w) xs ys t)
  each_append done (Syncs w ∷ xs) ys h t = each_append (done ++ Syncs w ∷ []) xs ys h (moved done (Syncs w) xs ys t)
  each_append done (Replaces b w ∷ xs) ys h t = each_append (done ++ Replaces b w ∷ []) xs ys h (moved done (Replaces b w) xs ys t)
  each_append done (Tells b ∷ xs) ys h t = each_append (done ++ Tells b ∷ []) xs ys h (moved done (Tells b) xs ys t)
  each_append done (Cuts b ∷ xs) ys h t = each_append (done ++ Cuts b ∷ []) xs ys h (moved done (Cuts b) xs ys t)

  each_back : (done : List Effect) (to : Endpoint) (o : Option (List ℕ)) → EachSend P done (sent_back to o)
  each_back done to None = tt
  each_back done to (Some b) = tt

  each_met : (done : List Effect) (w : Written) (need : Need) (source : Endpoint) (reply : List ℕ)
      → EachSend P done (meeting_effects w need ++ Acknowledges source reply ∷ [])
  each_met done w Nothing source reply = tt
  each_met done w Failing source reply = tt
  each_met done NotAppended (Batch batch) source reply = tt
  each_met done NotSynced (Batch batch) source reply = tt
  each_met done Synced (Batch batch) source reply = tt

  each_commanded : {A : Type 0} (done : List Effect) (now : ℕ) (source : Endpoint) (o : Option (Command A)) (w : Written) (l : Life)
      → EachSend P done (command_effects now source o w l)
  each_commanded done now source None w l = tt
  each_commanded done now source (Some Report) w l = tt
  each_commanded done now source (Some (Queue q)) w l = each_met done w (need_for q l) source _

  each_arrived : (A : Type 0) (done : List Effect) (now : ℕ) (p : Packet) (w : Written) (l : Life) (t : Bool)
      → EachSend P done (cond t (control_effects A now p w l) (answers_to now p l))
  each_arrived A done now p w l true = each_commanded {A = A} done now p.source (command_of p.bytes) w l
  each_arrived A done now p w l false = each_back done _ _

  each_replied : (A : Type 0) (done : List Effect) (now : ℕ) (came : Option Arrival) (l : Life) → EachSend P done (replied A now came l)
  each_replied A done now None l = tt
  each_replied A done now (Some a) l = each_arrived A done now a.packet a.written l (is_control a.packet)

  each_renewing : (done : List Effect) (now : ℕ) (is : Bool) (o : Option Kept) (l : Life)
      → EachSend P done (renewing_effects_if_kept now is o l)
  each_renewing done now is None l = tt
  each_renewing done now is (Some k) l = tt

  each_renewal_if : (done : List Effect) (now : ℕ) (is t : Bool) (l : Life)
      → EachSend P done (cond t (renewing_effects now is l) [])
  each_renewal_if done now is true l = each_renewing done now is l.kept l
  each_renewal_if done now is false l = tt

  each_renewal : (done : List Effect) (now : ℕ) (is : Bool) (l : Life) → EachSend P done (renewal_effects now is l)
  each_renewal done now is l = each_renewal_if done now is (is_to_be_renewed now l.kept) l

-- the downlinks of a pass

module _ (now : ℕ) (all : List ToSend) (l : Life) (k : Kept) (keeps : l.kept ≡ Some k) (well : k.failed_at ≡ None) where
  abbrev entries : List Entry
  entries = batch_entries (known_then k now l) (sendable l.known all)

  abbrev behind : List Effect → List Effect → List Effect
  behind before rest = before ++ (Appends (batch_text entries) true ∷ Syncs true ∷ rest)

  -- one of them
  one_kept : (before rest : List Effect) (d : ToSend) (to : Endpoint) (tmst power : ℕ) → Contains all d
      → fate_of d l.known ≡ Sendable to tmst power → IsBehindItsBatch now all l (behind before rest) to (pull_resp_of (token_of d) (asked_for tmst power d))
  one_kept before rest d to tmst power among may =
      record {
        downlink = d;
        among = among;
        tmst = tmst;
        power_dbm = power;
        may = may;
        is = refl;
        kept = k;
        keeps = keeps;
        well = well;
        batch = entries;
        whole = refl;
        told = λ f addr found session.
            batches_tell_what_is_sent (known_then k now l) (sendable l.known all) d f addr found session
            (filter_in (λ e. is_sendable (fate_of e l.known)) all d (ap is_sendable may) among);
        before = before;
        behind = rest;
        written = refl;
      }

  abbrev holds : List Effect → Endpoint → List ℕ → Type 0
  holds done to bytes = IsBehindItsBatch now all l done to bytes

  -- each of some, whatever was sent behind the batch before
  each_by : (before rest : List Effect) (d : ToSend) (ds : List ToSend) (went : List Bool) → Contains all d
      → ((rest : List Effect) (went : List Bool) → EachSend holds (behind before rest) (map sent_one (zip (asked l.known ds) went)))
      → (f : Fate) → fate_of d l.known ≡ f
      → EachSend holds (behind before rest) (map sent_one (zip (asked_by d f ++ asked l.known ds) went))
  each_by before rest d ds went among others Barred is = others rest went
  each_by before rest d ds went among others Unreachable is = others rest went
  each_by before rest d ds [] among others (Sendable to tmst power) is = tt
  each_by before rest d ds (w ∷ went) among others (Sendable to tmst power) is =
      let bytes = pull_resp_of (token_of d) (asked_for tmst power d) in (
        one_kept before rest d to tmst power among is,
        subst (λ done. EachSend holds done (map sent_one (zip (asked l.known ds) went)))
            (sym (append_assoc before (Appends (batch_text entries) true ∷ Syncs true ∷ rest) (Sends to bytes w ∷ [])))
            (others (rest ++ Sends to bytes w ∷ []) went),
      )

  each_sent : (before rest : List Effect) (ds : List ToSend) (went : List Bool) → ((d : ToSend) → Contains ds d → Contains all d)
      → EachSend holds (behind before rest) (map sent_one (zip (asked l.known ds) went))
  each_sent before rest [] went among = tt
  each_sent before rest (d ∷ ds) went among =
      each_by before rest d ds went (among d (head_in d ds))
      (λ more others. each_sent before more ds others (λ e c. among e (tail_in d e ds c))) (fate_of d l.known) refl

  -- all of them, by how far the batch got
  each_delivered : (done : List Effect) (written : Written) (went : List Bool)
      → EachSend holds done (writing written (batch_text entries) ++ sending_if written (zip (asked l.known all) went))
  each_delivered done NotAppended went = tt
  each_delivered done NotSynced went = tt
  each_delivered done Synced went =
      subst (λ e. EachSend holds e (map sent_one (zip (asked l.known all) went)))
      (sym (append_assoc done (Appends (batch_text entries) true ∷ []) (Syncs true ∷ [])))
      (each_sent done [] all went (λ e c. c))

-- those of a pass, if a journal is kept and no write has failed
module _ (now : ℕ) (all : List ToSend) (l : Life) (done : List Effect) (d : Delivery) where
  abbrev holds_of : List Effect → Endpoint → List ℕ → Type 0
  holds_of e to bytes = IsBehindItsBatch now all l e to bytes

  abbrev told : Life
  told = after_kept_back all l

  -- what is known of the journal then
  abbrev then : Kept → Kept
  then k = with_kept_back (some_kept_back l.known all) k

  each_at : (k : Kept) → l.kept ≡ Some k → (o : Option ℕ) → k.failed_at ≡ o
      → EachSend holds_of done (asking_effects_at now d (sendable l.known all) (asked l.known all) (then k) o told)
  each_at k keeps None well = each_delivered now all l k keeps well done d.written d.went
  each_at k keeps (Some at) failed = tt

  each_asked : (k : Kept) → l.kept ≡ Some k → (asks : List Asked) → asks ≡ asked l.known all
      → EachSend holds_of done (asking_effects now d (sendable l.known all) asks (then k) told)
  each_asked k keeps [] is = tt
  each_asked k keeps (a ∷ asks) is =
      subst (λ x. EachSend holds_of done (asking_effects_at now d (sendable l.known all) x (then k) k.failed_at told)) (sym is)
      (each_at k keeps k.failed_at refl)

  each_if_kept : (o : Option Kept) → l.kept ≡ o → EachSend holds_of done (sending_effects_if_kept now d all o l)
  each_if_kept None is = tt
  each_if_kept (Some k) is =
      subst (λ o. EachSend holds_of done (asking_effects_with now d (sendable l.known all) (asked l.known all) (option_map then o) told))
      (sym is) (each_asked k is (asked l.known all) refl)

-- of a turn

module _ (A : Type 0) (now : ℕ) (came : Option Arrival) (r : Answered) (l : Life) where
  abbrev holds_in : List Effect → Endpoint → List ℕ → Type 0
  holds_in done to bytes = IsBehindItsBatch now (pass_downlinks A now came l) (behind_pass A now came l) done to bytes

  each_answered : (done : List Effect) → EachSend holds_in done (answering_effects A now r.delivery (before_pass A now came l))
  each_answered done =
      each_if_kept now (pass_downlinks A now came l) (behind_pass A now came l) done r.delivery (behind_pass A now came l).kept refl

  each_passed_if : (done : List Effect) (t : Bool)
      → EachSend holds_in done (cond t (answering_effects A now r.delivery (before_pass A now came l)) [])
  each_passed_if done true = each_answered done
  each_passed_if done false = tt

  each_passed : (done : List Effect) → EachSend holds_in done (pass_effects A now r.delivery (after_came A now came l))
  each_passed done = each_passed_if done (is_some (pass_answer (after_came A now came l).world.reg now))

  each_acted : EachSend holds_in [] (acts A now came r l)
  each_acted =
      let acks = replied A now came l in
      let passed = pass_effects A now r.delivery (after_came A now came l) in
      each_append holds_in [] (acks ++ passed) _
      (each_append holds_in [] acks passed (each_replied holds_in A [] now came l) (each_passed acks))
      (each_renewal holds_in (acks ++ passed) now r.renewed
      (after_report now (after_pass A now r.delivery (after_came A now came l))))

pub every_send_is_kept : (A : Type 0) → EverySendIsKept A
every_send_is_kept A now came r l = each_acted A now came r l
