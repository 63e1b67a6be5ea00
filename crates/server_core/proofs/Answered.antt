-- An uplink is answered: a ticket is taken, tried and settled.
use Rattle.server_core.proofs.Words
use Words.{ap, append-nil, arith, subst, sym, ◌∙◌, set-set, option_map_or, Contains, Err, IsOkUnless, IsTrue, List, MatchResult}
use Words.{Ok, Option, Result, Some, [], false, refl, ℕ, ◌-◌, ◌∷◌, ◌≡◌, ◌≢◌, Gathering, numbered, rewritten, HeardCopy, Standing}
use Words.{Answer, Open, Waiting, is_given, DeskView, desk_settled, desk_take, desk_taken, numbered-here, Device, Register}
use Words.{sent_of, job_of, World, known, Asked, Known, Done, TakeFault, not_taken, answer_steps, given_steps, AreBooksOf}
use Words.{AreHeard, AreHere, IsAt, IsIdle, IsBetweenCalls, Makes, Moves, Seen, ids_of, is_among, with_lines, with_step, After}
use Words.{Step, Take, take_by, IsAnswered, IsGivenTo, Line, take_answer, run_from, step}
use Rattle.server_core.proofs.TakeStep.{IsTicket, ticket, still_waits, job_window}
use Rattle.server_core.proofs.{DeskSteps.desk_calls_are_steps, Ready.all_rewritten, Calls.one_step, Calls.moves_on}
use Rattle.server_desk.specs.declared.answers.Known.TheVariants.{Pending}
use Rattle.server_core.specs.Steps as replies

-- once an answer is settled, no ticket is out again
rewritten_twice : (known : List Known) (n : ℕ) (k a b : Known) → numbered n known ≡ Some k
    → rewritten (λ x. b) n (rewritten (λ x. a) n known) ≡ rewritten (λ x. b) n known
rewritten_twice known n k a b e = rw (numbered-here (λ x. a) n known k e, e) (set-set known (n - 1) a b)

idle_settled : (known : List Known) (n : ℕ) (k done : Known) → IsIdle known → numbered n known ≡ Some k → is_given done ≡ false
    → IsIdle (rewritten (λ x. done) n (rewritten (λ x. Pending) n known))
idle_settled known n k done idle e d =
    rw (rewritten_twice known n k Pending done e) (all_rewritten (λ x. is_given x ≡ false) known idle (λ x. done) n (λ x q. d))

-- each candidate of an uplink's job is on a gateway that heard it
copies_heard : (ids : List ℕ) (l : List Gathering) (n : ℕ) (o : Option Gathering) → numbered n l ≡ o → AreHeard ids l
    → (copy : HeardCopy) → Contains (option_map_or (λ g. g.copies) o []) copy → IsTrue (is_among ids copy.gateway)
copies_heard ids l n o e h copy k = grind (arith, h n)

job_here : (ids : List ℕ) (reg : Register) (n : ℕ) (asked : Asked) (device : Device) → AreHeard ids reg.gathered.list
    → AreHere ids (job_of reg n asked device)
job_here ids reg n asked device h k c e =
    let x = job_window reg n asked device k c e in
    ap (is_among ids) x.gateway ∙ copies_heard ids reg.gathered.list n (numbered n reg.gathered.list) refl h x.copy x.heard

module _ {A : Type 0} (place n : ℕ) (old mid : Seen A) (noted : mid ≡ with_step (Take n) old)
    (ready : IsBetweenCalls old) where
  mid_desk : mid.desk ≡ old.desk
  mid_desk = rw noted refl

  -- a ticket was given
  module _ (t : Standing) (d : DeskView) (given : take_answer mid.desk.reg mid.desk.known n ≡ Ok t.job)
      (stepped : d ≡ desk_take mid.desk n) where
    abbrev out : Seen A
    out = record mid { desk = d }

    taken : IsTicket mid.desk.reg mid.desk.known n t.job
    taken = ticket mid.desk.reg mid.desk.known n t.job given

    number : t.job.number ≡ n
    number = rw (← taken.made) refl

    d_is : d ≡ desk_taken (Ok t.job) n old.desk
    d_is = rw (stepped, given, mid_desk) refl

    stated : numbered n old.desk.known ≡ Some taken.state
    stated = ap (λ (x : DeskView). numbered n x.known) (sym mid_desk) ∙ taken.stated

    -- it may be tried and settled
    pub may_work : t.at ≡ 0 → record {
      first : t.at ≡ 0;
      here : AreHere d.ids t.job;
      books : ids_of mid.books ≡ d.ids;
      given : IsGivenTo d.known t.job.number;
    }
    may_work first =
        record {
          first = first;
          here = rw (d_is, ← mid_desk, ← taken.made)
              (job_here mid.desk.ids mid.desk.reg n taken.asked taken.device (rw mid_desk ready.heard));
          books = rw (d_is, noted) ready.books;
          given = rw (d_is, number) (numbered-here (λ x. Pending) n old.desk.known taken.state stated);
        }

    module _ (new : Seen A) (a : IsAnswered place t.job out new) where
      new_desk : new.desk ≡ desk_settled a.ending n (desk_taken (Ok t.job) n old.desk)
      new_desk = rw (a.desk, number, d_is) refl

      answer_gathered : new.desk.reg.gathered ≡ old.desk.reg.gathered
      answer_gathered = rw new_desk (grind arith)

      answer_ready : IsBetweenCalls new
      answer_ready =
          let ids : new.desk.ids ≡ old.desk.ids = rw new_desk refl in
          record {
            books = rw (a.books, noted, ids) ready.books;
            heard = rw (ids, answer_gathered) ready.heard;
            idle = rw new_desk (idle_settled old.desk.known n taken.state (Done (sent_of a.ending)) ready.idle stated refl);
          }

      module _ (w : World) (at : IsAt w old) where
        abbrev v : World
        v = (step w (Take n)).0

        is_taken : step w (Take n) ≡ take_by w n (Ok t.job)
        unfolding step
        is_taken = ap (take_by w n) (rw (mid_desk, at.desk) at given)

        at_out : IsAt v out
        at_out =
            record {
              desk = rw (stepped, mid_desk, at.desk) (sym (desk_calls_are_steps.take w n));
              books = subst (AreBooksOf mid.books) (sym (ap (λ (x : After). x.0.gateways) is_taken)) (rw noted at.books);
            }

        stands : numbered t.job.number v.answers ≡ Some (Open 0 t.job)
        stands =
            let k = ap (λ (x : DeskView). numbered n x.known) (sym at.desk) ∙ stated in
            let waits = still_waits w.answers n taken.state k taken.waits in
            ap (λ (i : ℕ). numbered i v.answers) number ∙ ap (λ (x : After). numbered n x.0.answers) is_taken
            ∙ numbered-here (λ (x : Answer). Open 0 t.job) n w.answers Waiting waits

        abbrev rest : List Step
        rest = given_steps v n (step w (Take n)).1

        rest_is : given_steps v t.job.number (replies.Given (Ok t.job)) ≡ rest
        rest_is = rw (number, is_taken) refl

        answer_goes : Moves place w (answer_steps w n) old new
        unfolding run_from
        answer_goes = moves_on place w (Take n ∷ []) rest old out new
            (one_step place w (Take n) [] old out at_out (rw noted refl) (rw (noted, append-nil) refl)
            (rw is_taken refl)) (rw rest_is at (a.goes v at_out stands))

      pub answer_done : record {
        ready : IsBetweenCalls new;
        gathered : new.desk.reg.gathered ≡ old.desk.reg.gathered;
        made : Makes place (λ w. answer_steps w n) old new;
      }
      answer_done = record { ready = answer_ready; gathered = answer_gathered; made = answer_goes }

  -- none was given
  module _ (fault : TakeFault) (d : DeskView) (line : Line A) (new : Seen A)
      (refused : take_answer mid.desk.reg mid.desk.known n ≡ Err fault) (same : d ≡ mid.desk)
      (said : line ≡ not_taken n fault) (told : new ≡ with_lines place (line ∷ []) (record mid { desk = d })) where
    pub refused_made : Makes place (λ w. answer_steps w n) old new
    unfolding step
    refused_made w at =
        let is : step w (Take n) ≡ (w, replies.Given (Err fault)) = ap (take_by w n) (rw (mid_desk, at.desk) at refused) in
        let one : Take n ∷ [] ≡ answer_steps w n = rw is refl in
        rw one at (one_step place w (Take n) (line ∷ []) old new (rw (is, told, same, noted) at)
        (rw (told, noted) refl) (rw (told, noted) refl) (rw (is, said) refl))

-- a refusal that is no want of memory is the answer
pub refused_is : {X Y E : Type 0} (q : Result X E) (r : Result Y E) (fault none : E) → r ≡ Err fault
    → MatchResult q (λ _. IsOkUnless r none) (λ f. r ≡ Err f) → fault ≢ none → q ≡ Err fault
refused_is q r fault none e m n = grind (arith, m, n)
