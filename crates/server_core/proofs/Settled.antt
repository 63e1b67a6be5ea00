-- A ticket is tried until it is booked or out, and settled.
use Rattle.server_core.proofs.Words
use Words.{ap, append-nil, arith, sym, ◌∙◌, slice_get_within, IsTrue, List, Ok, Some, [], length, map, refl, ℕ, ◌++◌, ◌+◌, ◌-◌}
use Words.{◌<◌, ◌∷◌, ◌≡◌, numbered, Candidate, candidates, next_of, Standing, Ending, Open, desk_of, desk_settled, may_settle}
use Words.{World, given_steps, reached, AreHere, IsAt, Moves, Seen, ids_of, Settle, Try, AreTries, EndsTries, GoesOn, IsAnswered}
use Words.{IsGivenTo, MovesOn, HasTicketOut, IsSame, IsSettled, end_lines, tries_from, TriedOut, step_lines, run_from, step}
use Rattle.server_core.proofs.Calls.{reached_append, lines_append, noting_twice}
use Rattle.server_core.proofs.DeskSteps.{settle_walk, settle_desk, desk_calls_are_steps}
use Rattle.server_core.specs.Steps as replies

-- A ticket is tried until it is booked or out.

same_trans : {A : Type 0} (s t u : Seen A) → IsSame s t → IsSame t u → IsSame s u
same_trans s t u a b = record { desk = b.desk ∙ a.desk; ids = b.ids ∙ a.ids; outcomes = b.outcomes ∙ a.outcomes }

-- a refused try, and then the others
tries_on : {A : Type 0} (w : World) (t : Standing) (old mid new : Seen A) (ended : TriedOut A) → GoesOn w t old mid
    → EndsTries (step w (Try t.job.number)).0 (next_of t) mid new ended → EndsTries w t old new ended
unfolding run_from step_lines
tries_on w t old mid new ended g e =
    record {
      books = rw g.rest e.books;
      steps = rw (g.rest, e.steps, g.steps) (noting_twice (Try t.job.number ∷ []) _ old.steps);
      told = rw g.rest e.told;
      lines = rw (g.rest, g.lines) e.lines;
    }

-- where the tries of a ticket got to: what ends them from here ends them from their beginning
pub record IsTrying {A : Type 0} (w : World) (first t : Standing) (old now : Seen A) : Type 0 where
  pub world : World
  pub out : HasTicketOut world t now
  pub back : (new : Seen A) (ended : TriedOut A) → EndsTries world t now new ended → EndsTries w first old new ended

pub record AreTrying {A : Type 0} (first t : Standing) (old now : Seen A) : Type 0 where
  pub same : IsSame old now
  pub job : t.job ≡ first.job
  pub trying : (w : World) → HasTicketOut w first old → IsTrying w first t old now

pub trying_first : {A : Type 0} (t : Standing) (s : Seen A) → AreTrying t t s s
trying_first t s =
    record {
      same = record { desk = refl; ids = refl; outcomes = refl };
      job = refl;
      trying = λ w out. record { world = w; out = out; back = λ new ended e. e };
    }

pub here_still : {A : Type 0} (first t : Standing) (old now : Seen A) → AreTrying first t old now
    → AreHere (ids_of old.books) first.job → AreHere (ids_of now.books) t.job
here_still first t old now a h = rw (a.same.ids, a.job) h

pub trying_next : {A : Type 0} (first t next : Standing) (old now mid : Seen A) → AreTrying first t old now
    → MovesOn t now mid next → AreTrying first next old mid
trying_next first t next old now mid a n =
    rw n.moved (record {
      same = same_trans old now mid a.same n.same;
      job = a.job;
      trying = λ w out.
          let s = a.trying w out in
          let g = n.goes_on s.world s.out in
          record {
            world = (step s.world (Try t.job.number)).0;
            out = record { books = g.books; stands = g.stands };
            back = λ new ended e. s.back new ended (tries_on s.world t now mid new ended g e);
          };
    })

-- fewer candidates are left
pub fewer_left : {A : Type 0} (t next : Standing) (now mid : Seen A) → MovesOn t now mid next
    → length (candidates next.job) - next.at < length (candidates t.job) - t.at
fewer_left t next now mid n = rw n.moved (grind (arith, n.follows, slice_get_within (candidates t.job) (t.at + 1)))

pub tries_over : {A : Type 0} (first t : Standing) (old now new : Seen A) (ended : TriedOut A) → AreTrying first t old now
    → AreTries t now new ended → AreTries first old new ended
tries_over first t old now new ended a e =
    record {
      same = same_trans old now new a.same e.same;
      number = rw (e.number, a.job) refl;
      here = rw a.same.ids at e.here;
      ends = λ w out. let s = a.trying w out in s.back new ended (e.ends s.world s.out);
    }

-- A ticket is tried, and what is left of it is settled.

-- tries leave the desk's part of the world
tries_desk : (w : World) (n : ℕ) (cs : List Candidate) → desk_of (reached w (map (λ c. Try n) cs)) ≡ desk_of w
unfolding run_from
tries_desk w n [] = refl
tries_desk w n (c ∷ cs) = tries_desk (step w (Try n)).0 n cs ∙ desk_calls_are_steps.try w n

-- what is left of a ticket that is out may be settled
pub may_settle_tried : {A : Type 0} (t : Standing) (old mid : Seen A) (ended : TriedOut A) → AreTries t old mid ended
    → ids_of old.books ≡ old.desk.ids → IsGivenTo old.desk.known t.job.number
    → IsTrue (may_settle mid.desk.ids mid.desk.known ended.stub.number ended.stub.result)
may_settle_tried t old mid ended tried b g = rw (tried.same.desk, tried.number, g) (rw b at tried.here)

-- what the tries and the settling of a ticket make
module _ {A : Type 0} (place : ℕ) (t : Standing) (old mid new : Seen A) (ended : TriedOut A) (first : t.at ≡ 0)
    (tried : AreTries t old mid ended) (settled : IsSettled place ended mid new) where
  abbrev n : ℕ
  n = t.job.number

  abbrev ending : Ending
  ending = ended.stub.result

  desk_is : new.desk ≡ desk_settled ending n old.desk
  desk_is = rw (settled.desk, tried.number, tried.same.desk) refl

  module _ (w : World) (at : IsAt w old) (stands : numbered n w.answers ≡ Some (Open 0 t.job)) where
    abbrev v : World
    v = reached w (tries_from w t)

    ends : EndsTries w t old mid ended
    ends = tried.ends w (record { books = at.books; stands = rw first stands })

    -- the settling is the world's
    settled_at : IsAt (step v (Settle n)).0 new
    unfolding step
    settled_at =
        let same = settle_walk v (λ a. a.0.gateways ≡ v.gateways) n (λ e. refl) (λ answer ending q g e. refl) in
        record {
          desk = desk_is ∙ ap (desk_settled ending n) (at.desk ∙ sym (tries_desk w n _)) ∙ sym (settle_desk v n ending ends.told);
          books = rw (settled.books, same) ends.books;
        }

    lines : step_lines {A = A} w (tries_from w t ++ Settle n ∷ []) ≡ end_lines n ending ended.receipt
    unfolding step_lines
    lines = rw (lines_append {A = A} w (tries_from w t) (Settle n ∷ []), append-nil, desk_calls_are_steps.settled v n, ends.told)
        ends.lines

    goes_by : Moves place w (tries_from w t ++ Settle n ∷ []) old new
    unfolding run_from
    goes_by =
        record {
          at = rw (reached_append w (tries_from w t) (Settle n ∷ [])) settled_at;
          steps = rw (settled.steps, ends.steps, tried.number) (noting_twice (tries_from w t) (Settle n ∷ []) old.steps);
          outcomes = rw (settled.outcomes, tried.same.outcomes, tried.number, lines) refl;
        }

    whole : tries_from w t ++ Settle n ∷ [] ≡ given_steps w n (replies.Given (Ok t.job))
    whole = rw first refl

  pub answered : IsAnswered place t.job old new
  answered =
      record {
        books = rw settled.books tried.same.ids;
        ending = ending;
        desk = desk_is;
        goes = λ w at stands. rw (whole w at stands) at (goes_by w at stands);
      }
