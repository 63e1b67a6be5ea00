-- Time passes for the gatherings: all that are due are closed and answered.
use Rattle.server_core.proofs.Words
use Words.{ap, append-nil, arith, sym, ◌∙◌, position_from, Bool, List, None, Some, [], false, if◌then◌else◌, length, refl}
use Words.{slice_get, slice_set, suc, true, ℕ, ◌++◌, ◌+◌, ◌<◌, ◌∷◌, ◌≡◌, Gathering, Gatherings, close_step, is_due, is_open}
use Words.{DeskView, desk_pass, World, closing, pass_answer, answer_steps, closing_steps, due_from, due_numbers, reached, IsAt}
use Words.{IsBetweenCalls, Makes, Moves, Seen, pass_whole, with_step, Pass, due_of, pass_steps, run_from, step, same_Some}
use Rattle.server_core.proofs.{Calls.one_step, Calls.moves_on, Ready.heard_closed}

-- The gatherings that are due, one after another.

abbrev closed : Gathering → Gathering
closed g = record g { closed = true }

module _ (now : ℕ) where
  -- the first that is due stands at this place, and once it is closed the others are due
  record IsFirst (k : ℕ) (l : List Gathering) (m : ℕ) : Type 0 where
    place : ℕ
    gathering : Gathering
    number : m ≡ k + place
    there : slice_get l place ≡ Some gathering
    is_open : is_open gathering ≡ true
    rest : due_from k now l ≡ m ∷ due_from k now (slice_set l place (closed gathering))

  was_open : (g : Gathering) → is_due now g ≡ true → is_open g ≡ true
  was_open g e = grind arith

  first_by : (k : ℕ) (g : Gathering) (gs : List Gathering) (m : ℕ) (t : Bool) → is_due now g ≡ t
      → (if t then Some k else position_from (is_due now) (k + 1) gs) ≡ Some m
      → (position_from (is_due now) (k + 1) gs ≡ Some m → IsFirst (k + 1) gs m) → IsFirst k (g ∷ gs) m
  first_by k g gs m true t e r =
      let is = was_open g t in
      rw (same_Some _ _ (sym e))
      (record { place = 0; gathering = g; number = omega arith; there = refl; is_open = is; rest = rw t refl })
  first_by k g gs m false t e r =
      let f = r e in
      record {
        place = suc f.place;
        gathering = f.gathering;
        number = omega (arith, f.number);
        there = f.there;
        is_open = f.is_open;
        rest = rw (t, f.rest) refl;
      }

  closed_first : (s : Gatherings) (n : ℕ) → IsFirst 1 s.list n
      → due_numbers now s.list ≡ n ∷ due_numbers now (close_step s n).list
  closed_first s n f = grind (arith, f.number, f.there, f.is_open, f.rest)

  first_due : (k : ℕ) (l : List Gathering) (m : ℕ) → position_from (is_due now) k l ≡ Some m → IsFirst k l m
  first_due k [] m e = absurd (cc)
  first_due k (g ∷ gs) m e = first_by k g gs m (is_due now g) refl e (first_due (k + 1) gs m)

  pub due_none : (k : ℕ) (l : List Gathering) → position_from (is_due now) k l ≡ None → due_from k now l ≡ []
  due_none k [] e = refl
  due_none k (g ∷ gs) e = grind (arith, due_none (k + 1) gs)

  -- the least number that is due, and those that are due when it is closed
  pub due_some : (s : Gatherings) (n : ℕ) → due_of now s.list ≡ Some n
      → due_numbers now s.list ≡ n ∷ due_numbers now (close_step s n).list
  unfolding due_of
  due_some s n e = closed_first s n (first_due 1 s.list n e)

-- All that is due is closed and answered, one after another.

abbrev due_now : ℕ → DeskView → List ℕ
due_now now d = due_numbers now d.reg.gathered.list

-- how far the passes got: what makes the rest of the steps from here makes all of them from the beginning
pub record IsPassing {A : Type 0} (place now : ℕ) (w : World) (old s : Seen A) : Type 0 where
  pub world : World
  pub at : IsAt world s
  pub back : (new : Seen A) → Moves place world (pass_whole world now) s new → Moves place w (pass_whole w now) old new

pub record ArePassing {A : Type 0} (place now : ℕ) (old s : Seen A) : Type 0 where
  pub ready : IsBetweenCalls s
  pub passing : (w : World) → IsAt w old → IsPassing place now w old s

pub passing_first : {A : Type 0} (place now : ℕ) (s : Seen A) → IsBetweenCalls s → ArePassing place now s s
passing_first place now s r = record { ready = r; passing = λ w at. record { world = w; at = at; back = λ new g. g } }

-- time passes at the desk, once
pass_goes : {A : Type 0} (place now : ℕ) (s new : Seen A) (d : DeskView) → d ≡ desk_pass s.desk now
    → new ≡ with_step (Pass now) (record s { desk = d }) → (w : World) → IsAt w s → Moves place w (Pass now ∷ []) s new
unfolding step
pass_goes place now s new d stepped noted w at = one_step place w (Pass now) [] s new
    (rw (noted, stepped) (record { desk = ap (λ (x : DeskView). desk_pass x now) at.desk; books = at.books }))
    (rw noted refl) (rw (noted, append-nil) refl) refl

-- the next that is due is closed
module _ {A : Type 0} (place now n : ℕ) (old s mid : Seen A) (d : DeskView) (closed : Some n ≡ pass_answer s.desk.reg now)
    (stepped : d ≡ desk_pass s.desk now)
    (noted : mid ≡ with_step (Pass now) (record s { desk = d })) where
  d_is : d ≡ record (s.desk) { reg = closing (Some n) s.desk.reg }
  d_is = rw (stepped, ← closed) refl

  due_is : due_now now s.desk ≡ n ∷ due_now now mid.desk
  due_is = due_some now s.desk.reg.gathered n (sym closed) ∙ rw (noted, d_is) refl

  pub closed_ready : IsBetweenCalls s → IsBetweenCalls mid
  closed_ready r = rw (noted, d_is) (assumption (heard_closed s.desk.ids s.desk.reg.gathered n r.heard, r))

  -- and answered
  module _ (next : Seen A) (ready : IsBetweenCalls next) (same : next.desk.reg.gathered ≡ mid.desk.reg.gathered)
      (answers : Makes place (λ w. answer_steps w n) mid next) where
    -- fewer are due
    pub fewer_due : length (due_now now next.desk) < length (due_now now s.desk)
    fewer_due = rw (due_is, same) (omega arith)

    module _ (w : World) (at : IsAt w s) where
      closing_goes : Moves place w (closing_steps w now n) s next
      unfolding run_from
      closing_goes =
          let first = pass_goes place now s mid d stepped noted w at in
          moves_on place w (Pass now ∷ []) (answer_steps (step w (Pass now)).0 n) s mid next first
          (answers (step w (Pass now)).0 first.at)

      whole_is : pass_whole w now ≡ closing_steps w now n ++ pass_whole (reached w (closing_steps w now n)) now
      unfolding pass_steps
      whole_is =
          let due : due_numbers now w.reg.gathered.list
          ≡ n ∷ due_numbers now (reached w (closing_steps w now n)).reg.gathered.list =
          ap (due_now now) (sym at.desk) ∙ due_is ∙ ap (λ (x : Gatherings). n ∷ due_numbers now x.list) (sym same)
          ∙ ap (λ (x : DeskView). n ∷ due_now now x) closing_goes.at.desk in
          rw due refl

    pub passing_on : ArePassing place now old s → ArePassing place now old next
    passing_on p =
        record {
          ready = ready;
          passing = λ w at.
              let q = p.passing w at in
              let ss = closing_steps q.world now n in
              let c = closing_goes q.world q.at in
              record {
                world = reached q.world ss;
                at = c.at;
                back = λ new g. q.back new (rw (whole_is q.world q.at)
                    (moves_on place q.world ss (pass_whole (reached q.world ss) now) s next new c g));
              };
        }

-- nothing more is due
module _ {A : Type 0} (place now : ℕ) (old s new : Seen A) (d : DeskView) (none : None ≡ pass_answer s.desk.reg now)
    (stepped : d ≡ desk_pass s.desk now) where
  last_is : (w : World) → IsAt w s → pass_whole w now ≡ Pass now ∷ []
  unfolding pass_steps due_of
  last_is w at =
      let due : due_numbers now w.reg.gathered.list ≡ [] =
      ap (due_now now) (sym at.desk) ∙ due_none now 1 s.desk.reg.gathered.list (sym none) in
      rw due refl

  pub passed_done : ArePassing place now old s → new ≡ with_step (Pass now) (record s { desk = d })
      → record { ready : IsBetweenCalls new; made : Makes place (λ w. pass_whole w now) old new }
  passed_done p noted =
      let same_desk : d ≡ s.desk = rw (stepped, ← none) refl in
      record {
        ready = rw (noted, same_desk) p.ready;
        made = λ w at.
            let q = p.passing w at in
            q.back new (rw (last_is q.world q.at) (pass_goes place now s new d stepped noted q.world q.at));
      }
