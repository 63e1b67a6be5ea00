-- The calls of a ticket and of a gateway's book are the steps of the world.
use Rattle.server_core.proofs.Words
use Words.{ap, arith, sym, ◌∙◌, IsSome, IsSomeAnd, IsTrue, option_and_then, Bool, Err, List, None, Ok, Option, Result, Some, []}
use Words.{map, refl, slice_get, slice_set, true, ℕ, ◌+◌, ◌==◌, ◌∷◌, ◌≡◌, Reservation, Book, ticked, with_booked, book_step}
use Words.{cancel_step, tick_step, orderly_booked, orderly_cancelled, remembers_answer, remembers_booked, remembers_cancel}
use Words.{remembers_cancelled, remembers_ticked, IsAsked, refusal_of, CancelFault, Refusal, numbered, rewritten, Candidate, Job}
use Words.{ask_for, next_of, refusal_by, answered_as, Standing, candidate_of, Ending, Unanswered, Answer, Booked, Open, Out}
use Words.{Waiting, numbered-here, is_here, Gateway, World, TakeFault, gateway_with, known, found_there, Sent, IsBookOf, is_among}
use Words.{Cancel, Reply, Step, Tick, Try, cancel_sent, ending_of, refused, sent_by, settle_as, settle_of, take_by, terms}
use Words.{tried_by, take_answer, step, try_of, subst, Rules, IsOrderly}
use Rattle.server_core.proofs.DeskSteps.{desk_calls_are_steps, may}
use Rattle.std.proofs.lemmas.Bool.{eqb-true}
use Rattle.server_core.proofs.{TakeStep.ticket, TakeStep.still_waits}
use Rattle.server_core.specs.BookCalls.{next_candidate, IsBookAt, IsStepAt, IsTicketIn, IsTryStep, LeavesStub}
use Rattle.server_core.specs.BookCalls.{LeavesTicket, IsTry, IsCancel, BookCallsAreSteps, sent_at}
use Rattle.server_desk.specs.Register.{first_at}
use Rattle.uplink_gather.proofs.KeptLemmas.{set_same}
use Rattle.answer_ticket.specs.{declared.tried.Tried.Tried, Tried.TriedAs}
use Rattle.answer_ticket.specs.declared.tried.Tried.TheVariants as tried
use Rattle.server_core.specs.Steps as replies

-- What was found is found again where it was written anew.

module _ {X : Type 0} (test : X → Bool) (v : X) (passes : test v ≡ true) where
  again_by : (x : X) (xs : List X) (i : ℕ) (y : X)
      → ((j : ℕ) → first_at test xs ≡ Some (j, y) → first_at test (slice_set xs j v) ≡ Some (j, v))
      → first_at test (x ∷ xs) ≡ Some (i, y) → first_at test (slice_set (x ∷ xs) i v) ≡ Some (i, v)
  again_by x xs i y h f = grind (arith, h, passes)

  found_again : (xs : List X) (i : ℕ) (y : X) → first_at test xs ≡ Some (i, y) → first_at test (slice_set xs i v) ≡ Some (i, v)
  found_again [] i y f = absurd (cc (f))
  found_again (x ∷ xs) i y f = again_by x xs i y (λ j. found_again xs j y) f

-- a gateway that was found is among the ids
found_among : (id : ℕ) (xs : List Gateway) (i : ℕ) (g : Gateway) → gateway_with id xs ≡ Some (i, g)
    → is_among (map (λ y. y.id) xs) id ≡ true
found_among id [] i g f = absurd (cc (f))
found_among id (x ∷ xs) i g f = grind (arith, found_among id xs)

-- A gateway's book is asked.

module _ (w : World) (id at : ℕ) (old : Book) (b : IsBookAt id at w.gateways old) where
  pub there : (slice_get w.gateways at ≡ Some b.gateway) × ((b.gateway.id == id) ≡ true)
  there = found_there (λ (g : Gateway). g.id == id) w.gateways (at, b.gateway) b.found

  pub own : b.gateway.id ≡ id
  own = eqb-true b.gateway.id id there.1

  stepped : (s : Step) (answers : List Answer) (new : Book) (reply : Reply) (v : Gateway) → v.id ≡ b.gateway.id → IsBookOf new v
      → step w s ≡ (record w { answers = answers; gateways = slice_set w.gateways at v }, reply)
      → IsStepAt w s id at answers new reply
  stepped s answers new reply v same keeps is =
      record {
        gateway = v;
        after = is;
        found = found_again (λ (g : Gateway). g.id == id) v (rw same there.1) w.gateways at b.gateway b.found;
        keeps = keeps;
      }

  -- time passes for it
  pub tick_at_book : (now : ℕ) (new : Book) → new ≡ ticked old now
      → IsStepAt w (Tick id now) id at w.answers new (replies.Ticked (Some new.floor))
  unfolding step
  tick_at_book now new is =
      let k = b.keeps in
      let v : Gateway = record (b.gateway) { state = tick_step b.gateway.state now } in
      let keeps : IsBookOf new v =
      rw is (assumption (k, remembers_ticked old b.gateway.state k.orderly k.remembers now)) in
      stepped (Tick id now) w.answers new (replies.Ticked (Some new.floor)) v refl keeps
      (rw (b.found, is, k.remembers.floor) refl)

-- What is booked is cancelled.

pub cancel_is : (w : World) (n : ℕ) (o : Option Sent) → sent_at w n ≡ o → step w (Cancel n) ≡ cancel_sent w n o
unfolding step
cancel_is w n o e = grind arith

-- it is the same gateway's book
pub same_book : (n start : ℕ) (old new : Book) (r : Result ℕ CancelFault) → IsCancel n start old new r
    → (new.id ≡ old.id) × (new.rules ≡ old.rules)
same_book n start old new r c = grind (arith, c.cancelled, c.refused)

pub cancel_at_book : (w : World) (n at : ℕ) (sent : Sent) (old new : Book) (result : Result ℕ CancelFault)
    → sent_at w n ≡ Some sent → IsBookAt sent.gateway at w.gateways old → IsCancel n sent.start old new result
    → IsStepAt w (Cancel n) sent.gateway at w.answers new (replies.Cancelled result)
cancel_at_book w n at sent old new result e b c =
    let k = b.keeps in
    let s = b.gateway.state in
    let same = same_book n sent.start old new result c in
    let v : Gateway = record (b.gateway) { state = cancel_step s n sent.start } in
    let OfRules : Rules → Type 0 = λ r. IsOrderly r.gap v.state.list in
    let keeps : IsBookOf new v =
    record {
      id = same.0 ∙ k.id;
      rules = same.1 ∙ k.rules;
      orderly = subst OfRules (sym same.1) (orderly_cancelled old s k.orderly k.remembers n sent.start);
      remembers = remembers_cancelled old s k.orderly k.remembers n sent.start new c.step;
    } in
    stepped w sent.gateway at old b (Cancel n) w.answers new (replies.Cancelled result) v refl keeps
    (cancel_is w n (Some sent) e ∙ rw b.found (cc (c.answer, remembers_cancel old s k.orderly k.remembers n sent.start)))

-- A ticket is tried on a gateway's book.

pub some_and : {X : Type 0} (P : X → Type 0) (o : Option X) → IsSomeAnd o P → (x : X) × (o ≡ Some x) × P x
some_and P None h = absurd h
some_and P (Some x) h = (x, refl, h)

pub is_some_is : {X : Type 0} (o : Option X) → IsSome o → (x : X) × (o ≡ Some x)
is_some_is o e = grind arith

module _ (w : World) (t : Standing) (out : IsTicketIn w t) (id at : ℕ) (old : Book) (b : IsBookAt id at w.gateways old)
    (c : Candidate) (stands : candidate_of t ≡ Some c) (asked : old.id ≡ c.gateway) where
  abbrev number : ℕ
  number = t.job.number

  gateway_is : c.gateway ≡ id
  gateway_is = sym asked ∙ b.keeps.id ∙ own w id at old b

  pub found_for : gateway_with c.gateway w.gateways ≡ Some (at, b.gateway)
  found_for = rw gateway_is b.found

  -- the gateway answers as its book does
  pub answer_is : (o : Option Refusal) → refusal_by old t.job c ≡ o
      → refusal_of (terms b.gateway) b.gateway.state.list (ask_for t.job c) ≡ o
  answer_is o e =
      let k = b.keeps in
      rw (← k.rules) (sym (remembers_answer old b.gateway.state k.orderly k.remembers (ask_for t.job c)) ∙ e)

  pub try_is : (o : Option Refusal) → refusal_by old t.job c ≡ o
      → step w (Try number) ≡ tried_by w number t.at t.job c (at, b.gateway) o
  unfolding step
  try_is o e = rw (out, stands, found_for, answer_is o e) refl

  answer_there : (answer : Answer) (new : Book) (refusal : Option Refusal) → IsTryStep w number id at answer new refusal
      → numbered number (step w (Try number)).0.answers ≡ Some answer
  answer_there answer new refusal s = rw s.after (numbered-here (λ a. answer) number w.answers (Open t.at t.job) out)

  stub_left : (answer : Answer) (new : Book) (refusal : Option Refusal) (ending : Ending) → ending_of answer ≡ Some ending
      → (s : IsTryStep w number id at answer new refusal)
      → IsTrue (is_here (map (λ g. g.id) (slice_set w.gateways at s.gateway)) ending)
      → LeavesStub w number id at (record { number = number; result = ending }) new refusal
  stub_left answer new refusal ending e s here =
      record {
        answer = answer;
        made = s;
        number = refl;
        stands = record { told = rw (answer_there answer new refusal s) e; here = rw s.after here };
      }

  refused_step : (refusal : Refusal) (answer : Answer) → refusal_by old t.job c ≡ Some refusal
      → refused t.at t.job refusal (candidate_of (next_of t)) ≡ answer → IsTryStep w number id at answer old (Some refusal)
  refused_step refusal answer e is =
      stepped w id at old b (Try number) (rewritten (λ a. answer) number w.answers) old
      (replies.Tried (Some (Some refusal))) b.gateway refl
      b.keeps (try_is (Some refusal) e ∙ rw (is, set_same w.gateways at b.gateway (there w id at old b).0) refl)

  -- it is refused, and another follows
  pub next_left : (refusal : Refusal) (d : Candidate) → refusal_by old t.job c ≡ Some refusal
      → candidate_of (next_of t) ≡ Some d → LeavesTicket w number id at (next_of t) old (Some refusal)
  next_left refusal d e follows =
      let answer : Answer = Open (t.at + 1) t.job in
      let s : IsTryStep w number id at answer old (Some refusal) = refused_step refusal answer e (rw follows refl) in
      record { made = s; number = refl; stands = answer_there answer old (Some refusal) s }

  -- it is refused, and it was the last
  pub out_left : (refusal : Refusal) → refusal_by old t.job c ≡ Some refusal → candidate_of (next_of t) ≡ None
      → LeavesStub w number id at (record { number = number; result = Unanswered refusal }) old (Some refusal)
  out_left refusal e last =
      stub_left (Out refusal) old (Some refusal) (Unanswered refusal) refl
      (refused_step refusal (Out refusal) e (rw last refl)) refl

  -- it is booked
  pub booked_left : (receipt : Reservation) → refusal_by old t.job c ≡ None → IsAsked (ask_for t.job c) receipt
      → LeavesStub w number id at (record { number = number; result = answered_as c }) (with_booked old receipt) None
  booked_left r e a =
      let k = b.keeps in
      let s = b.gateway.state in
      let ask = ask_for t.job c in
      let new : Book = with_booked old r in
      let v : Gateway = record (b.gateway) { state = book_step b.gateway.rules s ask } in
      let keeps : IsBookOf new v =
      rw (← k.rules) (assumption (
        k,
        orderly_booked old s k.orderly k.remembers ask r a e,
        remembers_booked old s k.orderly k.remembers ask r a e,
      )) in
      let answer : Answer = Booked (sent_by t.job c) c.window c.carries in
      let made : IsTryStep w number id at answer new None =
      stepped w id at old b (Try number) (rewritten (λ x. answer) number w.answers) new
      (replies.Tried (Some None)) v refl keeps (try_is None e) in
      stub_left answer new None (answered_as c) refl made
      (ap (is_among (map (λ y. y.id) (slice_set w.gateways at made.gateway))) gateway_is
      ∙ found_among id (slice_set w.gateways at made.gateway) at made.gateway made.found)

try_of_book : {A : Type 0} (w : World) (t : Standing) (id at : ℕ) (old new : Book) (tried : Tried A) → IsTicketIn w t
    → IsBookAt id at w.gateways old → (c : Candidate) → candidate_of t ≡ Some c → TriedAs t c old new tried
    → IsTry w t id at old new tried
try_of_book w t id at old new (tried.Booked stub receipt) out b c stands h =
    rw (h.ended, h.book) (booked_left w t out id at old b c stands h.asked receipt.reservation h.accepted h.named.reservation)
try_of_book w t id at old new (tried.Next ticket refusal) out b c stands h =
    let d = is_some_is (candidate_of (next_of t)) h.follows in
    rw (h.moved, h.book) (next_left w t out id at old b c stands h.asked refusal d.0 h.refused d.1)
try_of_book w t id at old new (tried.Out stub refusal) out b c stands h =
    rw (h.ended, h.book) (out_left w t out id at old b c stands h.asked refusal h.refused h.last)
try_of_book w t id at old new (tried.Wrong ticket) out b c stands h = (h.same, h.book)
try_of_book w t id at old new (tried.NoMemory ticket) out b c stands h = (h.same, h.book)

-- an answer that isn't open is not tried, nor one at a gateway without a book
not_open : (w : World) (n : ℕ) (o : Option Answer) → next_candidate o ≡ None → try_of w n o ≡ (w, replies.Tried None)
not_open w n o e = grind arith

no_book : (w : World) (n : ℕ) (o : Option Answer) (c : Candidate) → next_candidate o ≡ Some c
    → gateway_with c.gateway w.gateways ≡ None → try_of w n o ≡ (w, replies.Tried None)
no_book w n o c e f = grind arith

-- What is left of a ticket is settled.

settled_by : (w : World) (n : ℕ) (o : Option Answer) (ending : Ending) → option_and_then ending_of o ≡ Some ending
    → settle_of w n o ≡ settle_as w n (Some ending)
settled_by w n o ending e = grind arith

-- A ticket is given.

taken_by : (w : World) (n : ℕ) (job : Job) (r : Result Job TakeFault) → take_answer w.reg (known w) n ≡ r
    → (take_by w n r).1 ≡ replies.Given (Ok job) → IsTicketIn (take_by w n r).0 (record { job = job; at = 0 })
taken_by w n job (Err fault) e q = absurd (cc (q))
taken_by w n job (Ok given) e q =
    let t = ticket w.reg (known w) n given e in
    let same : job ≡ given = cc (q) in
    rw same (ap (λ (i : ℕ). numbered i (take_by w n (Ok given)).0.answers) (ap (λ (j : Job). j.number) (sym t.made))
    ∙ numbered-here (λ a. Open 0 given) n w.answers Waiting (still_waits w.answers n t.state t.stated t.waits))

pub book_calls_are_steps : (A : Type 0) → BookCallsAreSteps A
unfolding step
book_calls_are_steps A =
    record {
      taken = λ w n job q. taken_by w n job (take_answer w.reg (known w) n) refl q;
      try_on = λ w t id at old new tried out b h.
          let x = some_and (λ c. TriedAs t c old new tried) (candidate_of t) h in
          try_of_book w t id at old new tried out b x.0 x.1 x.2;
      try_nothing = λ w n e. not_open w n (numbered n w.answers) e;
      try_nowhere = λ w n c e f. no_book w n (numbered n w.answers) c e f;
      give_up = λ w t out. record { told = rw out refl; here = refl };
      settle = λ w stub s. record {
        taken = may w stub.number stub.result s.told s.here;
        desk = desk_calls_are_steps.settle w stub.number stub.result s.told s.here;
        after = settled_by w stub.number (numbered stub.number w.answers) stub.result s.told;
      };
      cancel = cancel_at_book;
      cancel_nothing = λ w n e. cancel_is w n None e;
      cancel_nowhere = λ w n sent e f. cancel_is w n (Some sent) e ∙ rw f refl;
      tick = λ w id at now old new b is. tick_at_book w id at old b now new is;
      tick_nowhere = λ w id now f. rw f refl;
    }
