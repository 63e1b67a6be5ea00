-- What a step comes to, and that the calls of the desk are the world's steps on its part.
use Rattle.server_core.proofs.Words
use Words.{arith, ap, sym, ◌∙◌, map-append, Err, List, None, Ok, Option, Result, Some, [], false, map, refl, slice_get, slice_set}
use Words.{true, ℕ, ◌+◌, ◌==◌, ◌∷◌, ◌≡◌, State, book_step, cancel_step, tick_step, refusal_of, NotHere, Refusal, numbered}
use Words.{Candidate, Job, ask_for, candidate_at, Ending, answer_airtime, answered_at, answered_in, known_airtime, Answer, Booked}
use Words.{Open, Settled, known_of, desk_of, desk_settled, desk_taken, known_after, Decision, register_after, map-rewritten}
use Words.{numbered-map, same_rewritten, map_set, same_Some, after_settling, is_here, may_settle, sent_of, Gateway, World}
use Words.{gateway_with, ids, known, found_there, Known, Done, Sent, TakeFault, After, answers_after, cancel, cancel_at}
use Words.{cancel_of, cancel_sent, ending_of, refused, sent_by, sent_for, settle, settle_as, settle_of, take_by, terms, tick}
use Words.{tick_at, tried_by, try, try_candidate, try_of, try_on, DeskCallsAreSteps, told, decide, take_answer, step}
use Rattle.std.proofs.lemmas.Bool.{eqb-true}
use Rattle.server_desk.specs.declared.answers.Known.TheVariants.{Pending}
use Rattle.server_core.specs.Steps as replies

pub by_option : {X : Type 0} (P : Option X → Type 0) (o : Option X) → (o ≡ None → P None)
    → ((x : X) → o ≡ Some x → P (Some x)) → P o
by_option P None n s = n refl
by_option P (Some x) n s = s x refl

module _ (w : World) (P : After → Type 0) where
  -- by the gateway with this id
  pub gateway_walk : (id : ℕ) (Q : Option (ℕ × Gateway) → Type 0) → Q None
      → ((i : ℕ) (g : Gateway) → slice_get w.gateways i ≡ Some g → g.id ≡ id → Q (Some (i, g))) → Q (gateway_with id w.gateways)
  gateway_walk id Q none there = by_option Q (gateway_with id w.gateways) (λ e. none) (λ found e.
      let f = found_there (λ (g : Gateway). g.id == id) w.gateways found e in
      there found.0 found.1 f.0 (eqb-true found.1.id id f.1))

  pub tick_walk : (id now : ℕ) → P (w, replies.Ticked None)
      → ((i : ℕ) (g : Gateway) → slice_get w.gateways i ≡ Some g → P (tick_at w now (Some (i, g)))) → P (tick w id now)
  tick_walk id now none there = gateway_walk id (λ o. P (tick_at w now o)) none (λ i g e own. there i g e)

  pub cancel_walk : (n : ℕ) → P (w, replies.Cancelled (Err NotHere))
      → ((s : Sent) (i : ℕ) (g : Gateway) → slice_get w.gateways i ≡ Some g → P (cancel_at w n s (Some (i, g)))) → P (cancel w n)
  cancel_walk n none there = by_option (λ o. P (cancel_of w n o)) (numbered n w.answers) (λ e. none)
      (λ answer e. by_option (λ o. P (cancel_sent w n o)) (sent_for answer) (λ f. none)
      (λ sent f. gateway_walk sent.gateway (λ o. P (cancel_at w n sent o)) none (λ i g q own. there sent i g q)))

  module _ (n : ℕ) (none : P (w, replies.Tried None)) (asked : (k : ℕ) (job : Job) (c : Candidate) (i : ℕ) (g : Gateway)
      → numbered n w.answers ≡ Some (Open k job) → candidate_at job k ≡ Some c → slice_get w.gateways i ≡ Some g
      → g.id ≡ c.gateway → (o : Option Refusal) → refusal_of (terms g) g.state.list (ask_for job c) ≡ o
      → P (tried_by w n k job c (i, g) o)) where
    tried_walk : (o : Option Answer) → numbered n w.answers ≡ o → P (try_of w n o)
    tried_walk (Some (Open k job)) e = by_option (λ o. P (try_candidate w n k job o)) (candidate_at job k) (λ f. none)
        (λ c f. gateway_walk c.gateway (λ o. P (try_on w n k job c o)) none (λ i g q own. asked k job c i g e f q own _ refl))
    tried_walk o e = none

    pub try_walk : P (try w n)
    try_walk = tried_walk (numbered n w.answers) refl

  pub settle_walk : (n : ℕ) → (told w n ≡ None → P (w, replies.Ended None))
      → ((answer : Answer) (ending : Ending) → numbered n w.answers ≡ Some answer → ending_of answer ≡ Some ending
      → told w n ≡ Some ending → P (settle_as w n (Some ending))) → P (settle w n)
  settle_walk n none there = by_option (λ o. P (settle_of w n o)) (numbered n w.answers) (λ e. none (rw e refl))
      (λ answer e. by_option (λ o. P (settle_as w n o)) (ending_of answer) (λ f. none (rw (e, f) refl))
      (λ ending f. there answer ending e f (rw (e, f) refl)))

-- the desk's part, by its parts
same_known : (w v : World) → w.reg ≡ v.reg → ids w ≡ ids v → known w ≡ known v → desk_of w ≡ desk_of v
same_known w v r i k = cc

hear_known : (d : Decision) (answers : List Answer) → map known_of (answers_after d answers)
    ≡ known_after d (map known_of answers)
hear_known d answers = grind (arith, map-append known_of)

take_desk : (w : World) (n : ℕ) (r : Result Job TakeFault) → desk_of (take_by w n r).0 ≡ desk_taken r n (desk_of w)
take_desk w n r = grind (arith, map-rewritten known_of)

settle_as_desk : (w : World) (n : ℕ) (ending : Ending) → desk_of (settle_as w n (Some ending)).0
    ≡ desk_settled ending n (desk_of w)
settle_as_desk w n ending = ap (λ (l : List Known). record { ids = ids w; reg = after_settling ending n w.reg; known = l })
    (map-rewritten known_of (λ a. Settled (sent_of ending)) (λ k. Done (sent_of ending)) (λ x. refl) n w.answers)

pub settle_desk : (w : World) (n : ℕ) (ending : Ending) → told w n ≡ Some ending
    → desk_of (settle w n).0 ≡ desk_settled ending n (desk_of w)
settle_desk w n ending e = settle_walk w (λ a. desk_of a.0 ≡ desk_settled ending n (desk_of w)) n (λ f. absurd (cc (e, f)))
    (λ answer x q g f. rw (same_Some _ _ (sym e ∙ f)) (settle_as_desk w n x))

-- what is out and on a gateway of the settings may be settled
pub may : (w : World) (n : ℕ) (ending : Ending) → told w n ≡ Some ending → is_here (ids w) ending ≡ true
    → may_settle (ids w) (known w) n ending ≡ true
may w n ending e h = grind (arith, numbered-map known_of n w.answers)

may_not : (w : World) (n : ℕ) (ending : Ending) → told w n ≡ None → may_settle (ids w) (known w) n ending ≡ false
may_not w n ending e = grind (arith, numbered-map known_of n w.answers)

-- a gateway's state alone changes
same_ids : (w : World) (i : ℕ) (g : Gateway) (s : State) → slice_get w.gateways i ≡ Some g
    → map (λ g. g.id) (slice_set w.gateways i (record g { state = s })) ≡ map (λ g. g.id) w.gateways
same_ids w i g s e = map_set (λ g. g.id) w.gateways i g (record g { state = s }) e refl

try_desk : (w : World) (n k : ℕ) (job : Job) (c : Candidate) (i : ℕ) (g : Gateway) (o : Option Refusal)
    → numbered n w.answers ≡ Some (Open k job) → slice_get w.gateways i ≡ Some g
    → desk_of (tried_by w n k job c (i, g) o).0 ≡ desk_of w
try_desk w n k job c i g (Some refusal) e there =
    let answer : Answer = refused k job refusal (candidate_at job (k + 1)) in
    same_known (tried_by w n k job c (i, g) (Some refusal)).0 w refl refl
    (same_rewritten known_of (λ a. answer) n w.answers (Open k job) e
    (elim (candidate_at job (k + 1)) as (λ o. known_of (refused k job refusal o) ≡ Pending) [ None ↦ refl | Some d ↦ refl ]))
try_desk w n k job c i g None e there =
    same_known (tried_by w n k job c (i, g) None).0 w refl (same_ids w i g (book_step g.rules g.state (ask_for job c)) there)
    (same_rewritten known_of (λ a. Booked (sent_by job c) c.window c.carries) n w.answers (Open k job) e refl)

same_airtime : (id : ℕ) (answer : Answer) → known_airtime id (known_of answer) ≡ answer_airtime id answer
same_airtime id answer = grind arith

same_answered : (id : ℕ) (answers : List Answer) → answered_at id (map known_of answers) ≡ answered_in id answers
same_answered id [] = refl
same_answered id (answer ∷ answers) = cc (same_airtime id answer, same_answered id answers)

pub desk_calls_are_steps : DeskCallsAreSteps
unfolding step
desk_calls_are_steps =
    record {
      queue = λ w addr payload. refl;
      hear = λ w bytes heard arrived.
          ap (λ (l : List Known). record { ids = ids w; reg = register_after (ids w) w.reg bytes heard arrived; known = l })
          (hear_known (decide (ids w) w.reg bytes heard arrived) w.answers);
      pass = λ w now. refl;
      take = λ w n. take_desk w n (take_answer w.reg (known w) n);
      settle = λ w n ending e h. rw (may w n ending e h) (settle_desk w n ending e);
      settle_none = λ w n e. (
        settle_walk w (λ a. desk_of a.0 ≡ desk_of w) n (λ f. refl) (λ answer ending q g f. absurd (cc (e, f))),
        λ ending. rw (may_not w n ending e) refl,
      );
      settled = λ w n. settle_walk w (λ a. a.1 ≡ replies.Ended (told w n)) n (λ e. rw e refl) (λ answer ending q g e. rw e refl);
      queued = λ w addr payload. refl;
      heard = λ w bytes heard arrived. refl;
      passed = λ w now. refl;
      taken = λ w n. elim (take_answer w.reg (known w) n) as (λ r. (take_by w n r).1 ≡ replies.Given r)
          [ Ok job ↦ refl | Err fault ↦ refl ];
      try = λ w n. try_walk w (λ a. desk_of a.0 ≡ desk_of w) n refl
          (λ k job c i g e f there own o q. try_desk w n k job c i g o e there);
      cancel = λ w n. cancel_walk w (λ a. desk_of a.0 ≡ desk_of w) n refl
          (λ sent i g e. cc (same_ids w i g (cancel_step g.state n sent.start) e));
      tick = λ w id now. tick_walk w (λ a. desk_of a.0 ≡ desk_of w) id now refl
          (λ i g e. cc (same_ids w i g (tick_step g.state now) e));
      answered = λ w id. same_answered id w.answers;
    }
