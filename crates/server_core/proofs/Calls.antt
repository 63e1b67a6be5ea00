-- Steps one after another, and a call that is one step: one thread notes the step, makes it, and tells its line.
use Rattle.server_core.proofs.Words
use Words.{arith, ap, append-nil, append_assoc, sym, ◌∙◌, map-append, Err, IfOk, IsOkUnless, List, MatchResult, Ok, OnErr, OnOk}
use Words.{Option, Some, None, Result, [], map, refl, ℕ, ◌++◌, ◌∷◌, ◌≡◌, ◌≢◌, Payload, DeskView, desk_hear, desk_of, desk_queue}
use Words.{known_after, Decision, answer_to, copy_of, Device, Register, device_with, World, after_queueing, queue_answer}
use Words.{DeskFault, QueueFault, Heard1, entry_at, lines_for, reached, noting, AreHeard, IsAt, IsIdle, IsBetweenCalls, Makes}
use Words.{Moves, Seen, heard_line, queued_line, with_lines, with_step, Hear, Heard, Queue, Queued, Reply, Step, Line, decide}
use Words.{step_lines, run_from, step}
use Rattle.server_core.proofs.{DeskSteps.desk_calls_are_steps, Ready.heard_after, Ready.idle_hear}
use Rattle.server_desk.specs.Hearing.{after_hearing}

-- Steps one after another, and the lines for them.

pub reached_append : (w : World) (ss ts : List Step) → reached w (ss ++ ts) ≡ reached (reached w ss) ts
unfolding run_from
reached_append w [] ts = refl
reached_append w (s ∷ ss) ts = reached_append (step w s).0 ss ts

pub lines_append : {A : Type 0} (w : World) (ss ts : List Step)
    → step_lines {A = A} w (ss ++ ts) ≡ step_lines w ss ++ step_lines (reached w ss) ts
unfolding run_from step_lines
lines_append w [] ts = refl
lines_append {A} w (s ∷ ss) ts = rw (lines_append {A = A} (step w s).0 ss ts, append_assoc) refl

-- Steps that are kept, some after others.

pub noting_none : (kept : Option (List Step)) → noting [] kept ≡ kept
noting_none None = refl
noting_none (Some made) = rw append-nil refl

pub noting_twice : (ss ts : List Step) (kept : Option (List Step)) → noting ts (noting ss kept) ≡ noting (ss ++ ts) kept
noting_twice ss ts None = refl
noting_twice ss ts (Some made) = rw append_assoc refl

-- What a server on one thread does, one thing after another.

-- what is promised of success, from another promise of it
pub on_ok : {X E : Type 0} {P Q : Type 0} (r : Result X E) → (P → Q) → OnOk r P → OnOk r Q
on_ok (Ok x) f p = f p
on_ok (Err e) f p = tt

pub both_ok : {X E P Q R : Type 0} (r : Result X E) → (P → record { ready : Q; made : R }) → OnOk r P
    → record { ready : OnOk r Q; made : OnOk r R }
both_ok (Ok x) f p = f p
both_ok (Err e) f p = record { ready = tt; made = tt }

pub all_ok : {X E P Q R S : Type 0} (r : Result X E) → (P → record { ready : Q; gathered : S; made : R }) → OnOk r P
    → record { ready : OnOk r Q; gathered : OnOk r S; made : OnOk r R }
all_ok (Ok x) f p = f p
all_ok (Err e) f p = record { ready = tt; gathered = tt; made = tt }

-- some steps, and then some more
pub moves_on : {A : Type 0} (place : ℕ) (w : World) (ss ts : List Step) (old mid new : Seen A) → Moves place w ss old mid
    → Moves place (reached w ss) ts mid new → Moves place w (ss ++ ts) old new
moves_on {A} place w ss ts old mid new a b =
    record {
      at = rw reached_append b.at;
      steps = rw (b.steps, a.steps) (noting_twice ss ts old.steps);
      outcomes = rw (b.outcomes, a.outcomes, lines_append {A = A} w ss ts, map-append, append_assoc) refl;
    }

-- one step that was noted, and its lines
pub one_step : {A : Type 0} (place : ℕ) (w : World) (s : Step) (lines : List (Line A)) (old new : Seen A)
    → IsAt (step w s).0 new → new.steps ≡ noting (s ∷ []) old.steps
    → new.outcomes ≡ old.outcomes ++ map (entry_at place) lines → lines_for w s (step w s).1 ≡ lines
    → Moves place w (s ∷ []) old new
unfolding run_from step_lines
one_step {A} place w s lines old new at t o l =
    record {
      at = at;
      steps = t;
      outcomes = rw (o, append-nil, l) refl;
    }

-- what an event that is one step leaves
abbrev pub IsDone : {A : Type 0} → ℕ → Step → Seen A → Seen A → Type 0
IsDone place s old new = record { ready : IsBetweenCalls new; made : Makes place (λ w. s ∷ []) old new }

-- what the call itself does, between the step's note and its line
pub record IsMade {A : Type 0} (s : Step) (line : Line A) (mid next : Seen A) : Type 0 where
  pub steps : next.steps ≡ mid.steps
  pub outcomes : next.outcomes ≡ mid.outcomes
  pub ready : IsBetweenCalls mid → IsBetweenCalls next
  pub at : (w : World) → IsAt w mid → IsAt (step w s).0 next
  pub lines : (w : World) → IsAt w mid → lines_for w s (step w s).1 ≡ line ∷ []

-- a note leaves it ready
pub ready_noted : {A : Type 0} (made : Step) (old mid : Seen A) → mid ≡ with_step made old → IsBetweenCalls old
    → IsBetweenCalls mid
ready_noted made old mid noted r = rw noted r

pub done : {A : Type 0} (place : ℕ) (s : Step) (line : Line A) (old mid next new : Seen A)
    → mid ≡ with_step s old → IsMade s line mid next → new ≡ with_lines place (line ∷ []) next → IsBetweenCalls old
    → IsDone place s old new
done {A} place s line old mid next new noted call told ready =
    record {
      ready = rw told (call.ready (rw noted ready));
      made = λ w at.
          let a : IsAt w mid = rw noted at in
          one_step place w s (line ∷ []) old new (rw told (call.at w a)) (rw (told, call.steps, noted) refl)
          (rw (told, call.outcomes, noted) refl) (call.lines w a);
    }

-- a call of the desk answers `q` and leaves `after`, unless it found no memory; a fault changes nothing
pub record IsCall {X E : Type 0} (none : E) (q : Result X E) (before after : DeskView) (r : Result X E)
    (d : DeskView) : Type 0 where
  pub answer : MatchResult q (λ _. IsOkUnless r none) (λ fault. r ≡ Err fault)
  pub told : IfOk r (λ x. q ≡ Ok x)
  pub step : OnOk r (d ≡ after)
  pub refused : OnErr r (d ≡ before)

-- the world's step is this call on the desk's part of it, and says so in its line
pub record IsDeskStep {A X E : Type 0} (s : Step) (q : DeskView → Result X E) (after : DeskView → DeskView)
    (reply : Result X E → Reply) (say : Result X E → Line A) : Type 0 where
  pub refusal : (d : DeskView) (fault : E) → q d ≡ Err fault → after d ≡ d
  pub ids : (d : DeskView) → (after d).ids ≡ d.ids
  pub heard : (d : DeskView) → AreHeard d.ids d.reg.gathered.list → AreHeard (after d).ids (after d).reg.gathered.list
  pub idle : (d : DeskView) → IsIdle d.known → IsIdle (after d).known
  pub desk : (w : World) → desk_of (step w s).0 ≡ after (desk_of w)
  pub gateways : (w : World) → (step w s).0.gateways ≡ w.gateways
  pub replied : (w : World) → (step w s).1 ≡ reply (q (desk_of w))
  pub lines : (w : World) (r : Result X E) → lines_for w s (reply r) ≡ say r ∷ []

-- a call that found memory gave the answer, and left what it leaves, also where it was refused
outcome : {X E : Type 0} (none : E) (q r : Result X E) (before after d : DeskView) → IsCall none q before after r d
    → ((fault : E) → q ≡ Err fault → after ≡ before) → r ≢ Err none → (q ≡ r) × (d ≡ after)
outcome none q r before after d call f n = grind (arith, call.answer, call.told, call.step, call.refused, f, n)

pub call_done : {A X E : Type 0} {s : Step} {q : DeskView → Result X E} {after : DeskView → DeskView}
    {reply : Result X E → Reply} {say : Result X E → Line A} (none : E) (place : ℕ) (old mid new : Seen A)
    (r : Result X E) (d : DeskView) (line : Line A) → IsDeskStep s q after reply say
    → mid ≡ with_step s old → IsCall none (q mid.desk) mid.desk (after mid.desk) r d → r ≢ Err none → line ≡ say r
    → IsBetweenCalls old → new ≡ with_lines place (line ∷ []) (record mid { desk = d }) → IsDone place s old new
call_done {A} {X} {E} {s} {q} {after} none place old mid new r d line is noted call memory said ready told =
    let o = outcome none (q mid.desk) r mid.desk (after mid.desk) d call (is.refusal mid.desk) memory in
    done place s line old mid (record mid { desk = d }) new noted
    (record {
      steps = refl;
      outcomes = refl;
      ready = λ x. rw o.1 (assumption (x.books ∙ sym (is.ids mid.desk), is.heard mid.desk x.heard, is.idle mid.desk x.idle));
      at = λ w at. record { desk = o.1 ∙ ap after at.desk ∙ sym (is.desk w); books = rw is.gateways at.books };
      lines = λ w at. rw (is.replied, ← at.desk, o.0, is.lines, said) refl;
    })
    told ready

queue_same_by : (reg : Register) (payload : Payload) (q : Result ℕ QueueFault) (o : Option (ℕ × Device))
    → (after_queueing q o payload reg).gathered ≡ reg.gathered
queue_same_by reg payload q o = grind arith

pub queue_is : {A : Type 0} (addr : ℕ) (payload : Payload)
    → IsDeskStep {A = A} (Queue addr payload) (λ d. queue_answer d.reg addr payload) (λ d. desk_queue d addr payload) Queued
    (queued_line addr)
unfolding step
queue_is {A} addr payload =
    record {
      refusal = λ d fault e. rw e refl;
      ids = λ d. refl;
      heard = λ d h. rw (queue_same_by d.reg payload (queue_answer d.reg addr payload) (device_with addr d.reg.devices)) h;
      idle = λ d i. i;
      desk = λ w. refl;
      gateways = λ w. refl;
      replied = λ w. refl;
      lines = λ w r. grind arith;
    }

hear_refused : (d : DeskView) (bytes : List ℕ) (heard : Heard1) (arrived : ℕ) (c : Decision) (fault : DeskFault)
    → answer_to c d.reg ≡ Err fault
    → record d { reg = after_hearing c d.reg bytes (copy_of heard) arrived; known = known_after c d.known } ≡ d
hear_refused d bytes heard arrived c fault e = grind arith

pub hear_is : {A : Type 0} (bytes : List ℕ) (heard : Heard1) (arrived : ℕ)
    → IsDeskStep {A = A} (Hear bytes heard arrived) (λ d. answer_to (decide d.ids d.reg bytes heard arrived) d.reg)
    (λ d. desk_hear d bytes heard arrived) Heard heard_line
unfolding step
hear_is {A} bytes heard arrived =
    record {
      refusal = λ d fault e. hear_refused d bytes heard arrived (decide d.ids d.reg bytes heard arrived) fault e;
      ids = λ d. refl;
      heard = λ d h. heard_after d.ids d.reg bytes heard arrived h;
      idle = λ d i. idle_hear (decide d.ids d.reg bytes heard arrived) d.known i;
      desk = λ w. desk_calls_are_steps.hear w bytes heard arrived;
      gateways = λ w. refl;
      replied = λ w. refl;
      lines = λ w r. grind arith;
    }
