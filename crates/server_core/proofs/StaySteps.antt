-- What is out stays that of the world through the steps of others.
use Rattle.server_core.proofs.Words
use Words.{arith, ap, sym, true≢false, ◌∙◌, AllPairs, Bool, Err, List, None, Ok, Option, Result, Some, [], false, map}
use Words.{option_and_then, option_map, refl, slice_get, slice_set, suc, true, zero, ℕ, ◌==◌, ◌∷◌, ◌≡◌, ◌≢◌, inl, inr, kept-nil}
use Words.{remembers_own, Refusal, orderly_nil, AllPairs-head, AllPairs-tail, numbered, rewritten, Candidate, Job, Ending}
use Words.{Outcome, Answer, Waiting, Open, is_given, known_of, Decision, all_get, numbered-append, numbered_after, same_Some}
use Words.{Gateway, World, gateway_with, ids, known, opened_gateway, GatewaySetting, Sent, TakeFault, Step, Queue, Hear, Pass}
use Words.{Take, Settle, Try, Cancel, Tick, answers_after, cancel_at, cancel_sent, ending_of, take_by, tick_at, tried_by, decide}
use Words.{take_answer, step, IsGatewayInRange}
use Rattle.server_core.proofs.DeskSteps.{by_option, gateway_walk, tick_walk, cancel_walk, try_walk, settle_walk}
use Rattle.server_core.proofs.DeskSteps.{desk_calls_are_steps}
use Rattle.server_core.proofs.{TakeStep.ticket, TakeStep.still_waits, BookSteps.cancel_is, OtherCancels.other_cancel}
use Rattle.std.specs.Cmp.{unsigned_Decides}
use Rattle.std.proofs.lemmas.Bool.{eqb-false, ne_eqb}
use Rattle.server_desk.specs.Register.{first_at}
use Rattle.server_core.specs.BookCalls.{IsStubIn, sent_at}
use Rattle.server_core.specs.Staying.{spends, gateway_asked, unused_book, OthersLeaveAlone}
use Rattle.server_desk.specs.Hearing as hearing

-- The answer of a number that is out.

module _ (w : World) (n : ℕ) (a : Answer) (at : numbered n w.answers ≡ Some a) where
  other_stays : (f : Answer → Answer) (m : ℕ) (x : Answer) → numbered m w.answers ≡ Some x → (m ≡ n → x ≡ a → ⊥)
      → numbered n (rewritten f m w.answers) ≡ Some a
  other_stays f m x e d = elim (numbered_after f m n w.answers a at)
      [ inl h ↦ absurd (d h.0 (same_Some _ _ (sym e ∙ ap (λ i. numbered i w.answers) h.0 ∙ at))) | inr h ↦ h ]

  heard_stays : (d : Decision) → numbered n (answers_after d w.answers) ≡ Some a
  heard_stays (hearing.Open o) = numbered-append n w.answers (Waiting ∷ []) a at
  heard_stays d = at

  taken_stays : is_given (known_of a) ≡ true → (m : ℕ) (r : Result Job TakeFault) → take_answer w.reg (known w) m ≡ r
      → numbered n (take_by w m r).0.answers ≡ Some a
  taken_stays out m (Err fault) e = at
  taken_stays out m (Ok job) e =
      let t = ticket w.reg (known w) m job e in
      other_stays (λ x. Open 0 job) m Waiting (still_waits w.answers m t.state t.stated t.waits)
      (λ q same. true≢false (sym out ∙ ap (λ x. is_given (known_of x)) (sym same)))

  tried_stays : (m k : ℕ) (job : Job) (c : Candidate) (found : ℕ × Gateway) → numbered m w.answers ≡ Some (Open k job) → m ≢ n
      → (o : Option Refusal) → numbered n (tried_by w m k job c found o).0.answers ≡ Some a
  tried_stays m k job c found e d (Some refusal) = other_stays _ m (Open k job) e (λ q same. d q)
  tried_stays m k job c found e d None = other_stays _ m (Open k job) e (λ q same. d q)

  answer_stays : is_given (known_of a) ≡ true → (s : Step) → spends n s ≡ false → numbered n (step w s).0.answers ≡ Some a
  unfolding step
  answer_stays out (Queue addr payload) o = at
  answer_stays out (Hear bytes heard arrived) o = heard_stays (decide (ids w) w.reg bytes heard arrived)
  answer_stays out (Pass now) o = at
  answer_stays out (Take m) o = taken_stays out m (take_answer w.reg (known w) m) refl
  answer_stays out (Settle m) o = settle_walk w (λ x. numbered n x.0.answers ≡ Some a) m (λ f. at)
      (λ answer ending e f told. other_stays _ m answer e (λ q same. eqb-false m n o q))
  answer_stays out (Try m) o = try_walk w (λ x. numbered n x.0.answers ≡ Some a) m at
      (λ k job c i g e f there own r q. tried_stays m k job c (i, g) e (eqb-false m n o) r)
  answer_stays out (Cancel m) o = cancel_walk w (λ x. numbered n x.0.answers ≡ Some a) m at (λ s i g e. at)
  answer_stays out (Tick id now) o = tick_walk w (λ x. numbered n x.0.answers ≡ Some a) id now at (λ i g e. at)

ids_stay : (w : World) (s : Step) → ids (step w s).0 ≡ ids w
unfolding step
ids_stay w (Try m) = ap (λ d. d.ids) (desk_calls_are_steps.try w m)
ids_stay w (Cancel m) = ap (λ d. d.ids) (desk_calls_are_steps.cancel w m)
ids_stay w (Tick id now) = ap (λ d. d.ids) (desk_calls_are_steps.tick w id now)
ids_stay w s = grind arith

ends_at : (o : Option Answer) (ending : Ending) → option_and_then ending_of o ≡ Some ending
    → (a : Answer) × (o ≡ Some a) × (ending_of a ≡ Some ending)
ends_at o ending e = grind arith

stub_stays : (w : World) (s : Step) (stub : Outcome) → IsStubIn w stub → spends stub.number s ≡ false → IsStubIn (step w s).0 stub
stub_stays w s stub is o =
    let x = ends_at (numbered stub.number w.answers) stub.result is.told in
    let out : is_given (known_of x.0) ≡ true = grind (arith, x.2) in
    record { told = rw (answer_stays w stub.number x.0 x.1 out s o) x.2; here = rw (ids_stay w s) is.here }

-- A gateway's book.

module _ {X : Type 0} (test : X → Bool) where
  other_found : (xs : List X) (i : ℕ) (x v : X) → slice_get xs i ≡ Some x → test x ≡ false → test v ≡ false
      → first_at test (slice_set xs i v) ≡ first_at test xs
  other_found [] i x v e s t = refl
  other_found (y ∷ ys) i x v e s t = grind (arith, other_found ys)

module _ (w : World) (id : ℕ) where
  abbrev Stays : List Gateway → Type 0
  Stays gateways = gateway_with id gateways ≡ gateway_with id w.gateways

  other_stays_found : (i : ℕ) (g v : Gateway) → slice_get w.gateways i ≡ Some g → g.id ≢ id → v.id ≡ g.id
      → Stays (slice_set w.gateways i v)
  other_stays_found i g v e d same =
      let t : (g.id == id) ≡ false = ne_eqb g.id id d in
      other_found (λ (x : Gateway). x.id == id) w.gateways i g v e t (rw same t)

  tried_found : (n k : ℕ) (job : Job) (c : Candidate) (i : ℕ) (g : Gateway) → slice_get w.gateways i ≡ Some g → g.id ≢ id
      → (o : Option Refusal) → Stays (tried_by w n k job c (i, g) o).0.gateways
  tried_found n k job c i g e d (Some refusal) = refl
  tried_found n k job c i g e d None = other_stays_found i g _ e d refl

  cancelled_found : (n : ℕ) (sent : Sent) → sent.gateway ≢ id → Stays (cancel_sent w n (Some sent)).0.gateways
  cancelled_found n sent d = gateway_walk w (λ x. Stays x.0.gateways) sent.gateway
      (λ o. Stays (cancel_at w n sent o).0.gateways) refl (λ i g e own. other_stays_found i g _ e (λ q. d (sym own ∙ q)) refl)

  found_stays : (s : Step) → gateway_asked w s ≢ Some id → Stays (step w s).0.gateways
  unfolding step
  found_stays (Queue addr payload) d = refl
  found_stays (Hear bytes heard arrived) d = refl
  found_stays (Pass now) d = refl
  found_stays (Take m) d = elim (take_answer w.reg (known w) m) as (λ r. Stays (take_by w m r).0.gateways)
      [ Ok job ↦ refl | Err fault ↦ refl ]
  found_stays (Settle m) d = settle_walk w (λ x. Stays x.0.gateways) m (λ f. refl) (λ answer ending e f told. refl)
  found_stays (Try m) d = try_walk w (λ x. Stays x.0.gateways) m refl (λ k job c i g e f there own r q.
      let asked : gateway_asked w (Try m) ≡ Some c.gateway = rw (e, f) refl in
      tried_found m k job c i g there (λ same. d (asked ∙ ap (λ (x : ℕ). Some x) (sym own ∙ same))) r)
  found_stays (Cancel m) d = by_option (λ o. sent_at w m ≡ o → Stays (step w (Cancel m)).0.gateways) (sent_at w m)
      (λ e f. rw (cancel_is w m None f) refl)
      (λ sent e f. rw (cancel_is w m (Some sent) f)
      (cancelled_found m sent (λ q. d (ap (option_map (λ (s : Sent). s.gateway)) f ∙ ap (λ (x : ℕ). Some x) q)))) refl
  found_stays (Tick other now) d = gateway_walk w (λ x. Stays x.0.gateways) other (λ o. Stays (tick_at w now o).0.gateways) refl
      (λ i g e own. other_stays_found i g _ e (λ q. d (ap (λ (x : ℕ). Some x) (sym own ∙ q))) refl)

-- before the first step
first_opened : (gs : List GatewaySetting) (at : ℕ) (g : GatewaySetting) → AllPairs (λ a b. a.id ≢ b.id) gs
    → slice_get gs at ≡ Some g → gateway_with g.id (map opened_gateway gs) ≡ Some (at, opened_gateway g)
first_opened [] at g d e = absurd (cc (e))
first_opened (x ∷ xs) zero g d e =
    let same : (x.id == g.id) ≡ true = (unsigned_Decides x.id g.id).1 (ap (λ (s : GatewaySetting). s.id) (same_Some _ _ e)) in
    rw same (ap (λ (s : GatewaySetting). Some (0, opened_gateway s)) (same_Some _ _ e))
first_opened (x ∷ xs) (suc i) g d e =
    let other = all_get (λ b. x.id ≢ b.id) xs i g (AllPairs-head (λ a b. a.id ≢ b.id) x xs d) e in
    let test : (x.id == g.id) ≡ false = ne_eqb x.id g.id other in
    rw (test, first_opened xs i g (AllPairs-tail (λ a b. a.id ≢ b.id) x xs d) e) refl

pub others_leave_alone : OthersLeaveAlone
others_leave_alone =
    record {
      opened = λ settings are limits at g e. record {
        gateway = opened_gateway g;
        found = first_opened settings.gateways at g are.ids_differ e;
        keeps = record {
          id = refl;
          rules = refl;
          orderly =
              orderly_nil g.gap (all_get IsGatewayInRange settings.gateways at g are.gateways_in_range e).gap.1;
          remembers = remembers_own (unused_book g) _ refl (kept-nil 0);
        };
      };
      ticket = λ w s t is o. answer_stays w t.job.number (Open t.at t.job) is refl s o;
      stub = stub_stays;
      book = λ w s id at book b d. record { gateway = b.gateway; found = found_stays w id s d ∙ b.found; keeps = b.keeps };
      cancel = other_cancel;
    }
