-- All that is done in a turn, part by part.
use Rattle.std.proofs.Common.{◌++◌, Bool, false, List, ℕ, Option, refl}
use Rattle.serve_turns.specs.declared.answerer.Answerer.{Answerer}
use Rattle.serve_turns.specs.declared.sending.Written.{Written}
use Rattle.serve_turns.specs.Control.{arrival}
use Rattle.serve_turns.specs.Effects.{Effect, Packet}
use Rattle.serve_turns.specs.Life.{Life, Makes}
use Rattle.serve_turns.specs.NewDesk.{after_desk}
use Rattle.serve_turns.specs.Renewing.{after_renewal, renewal_effects}
use Rattle.serve_turns.specs.Sending.{Delivery}
use Rattle.serve_turns.specs.Turn.{Answered, Did, Broke, HasActed, HasBroken, after_pass, after_report, came_in, came_in_effects, pass_effects, turned_effects, until_desk}
use Rattle.serve_turns.proofs.Parts.{did_then, did_broke, broke_first, did_as, broke_as, whole_front}
use Rattle.serve_turns.proofs.Sendings.{unasked}

-- something that asks the world around for nothing, and then a part
did_behind : {S A R X : Type 0} {C : _} (h0 h1 : Option (List Effect)) (f : Life → Life) (on : X → Life → Life)
    (does : X → Life → List Effect) (a b c : Answerer S A R C) → Makes f a b → Did h0 h1 on does b c
    → Did h0 h1 (λ x l. on x (f l)) (λ x l. does x (f l)) a c
did_behind h0 h1 f on does a b c made did =
    record {
      how = did.how;
      ready = did.ready;
      lives = λ l alive. did.lives (f l) (made.goes l alive);
      effects = λ l alive. did.effects (f l) (made.goes l alive);
    }

broke_behind : {S A R X : Type 0} {C : _} (h0 h1 : Option (List Effect)) (f : Life → Life) (does : X → Life → List Effect)
    (a b : Answerer S A R C) → Makes f a b → Broke h0 h1 does b → Broke h0 h1 (λ x l. does x (f l)) a
broke_behind h0 h1 f does a b made broke =
    record { how = broke.how; effects = λ l alive. broke.effects (f l) (made.goes l alive) }

-- all of it was done, and then memory was wanted
did_and_broke : {S A R X : Type 0} {C : _} (h0 h1 : Option (List Effect)) (on : X → Life → Life) (does : X → Life → List Effect)
    (a b : Answerer S A R C) → Did h0 h1 on does a b → Broke h0 h1 does a
did_and_broke h0 h1 on does a b did =
    record { how = did.how; effects = λ l alive. whole_front h0 h1 (does did.how l) (did.effects l alive) }

module _ (A : Type 0) (now : ℕ) (came : Option Packet) where
  -- what came is taken in, and what is due is answered
  abbrev first_on : Written × Delivery → Life → Life
  first_on how l = after_pass A now how.1 (came_in A now came how.0 l)

  abbrev first_does : Written × Delivery → Life → List Effect
  first_does how l = came_in_effects A now came how.0 l ++ pass_effects A now how.1 (came_in A now came how.0 l)

  -- what was dropped is told, and the journal is written anew where that is due
  abbrev then_on : Bool → Life → Life
  then_on done l = after_renewal now done (after_report now l)

  abbrev then_does : Bool → Life → List Effect
  then_does done l = renewal_effects now done (after_report now l)

  -- all but a new desk
  abbrev until_on : Written × Answered → Life → Life
  until_on how l = until_desk A now (arrival came how.0) how.1 l

  abbrev answered_by : (Written × Delivery) × Bool → Written × Answered
  answered_by how = (how.0.0, record { delivery = how.0.1; renewed = how.1 })

  module _ {S R : Type 0} {C : _} (h0 h1 h2 h3 : Option (List Effect)) (a b c d e : Answerer S A R C) where
    broken_by : (h : Option (List Effect))
        → Broke h0 h (λ (how : (Written × Delivery) × Bool) l. first_does how.0 l ++ then_does how.1 (first_on how.0 l)) a
        → HasBroken now came h0 h a
    broken_by h broke =
        broke_as h0 h (λ (how : (Written × Delivery) × Bool) l. first_does how.0 l ++ then_does how.1 (first_on how.0 l)) (turned_effects A now came) a
        answered_by (λ x l. refl) broke

    pub act_broke_first : Broke h0 h1 (came_in_effects A now came) a → HasBroken now came h0 h1 a
    act_broke_first broke =
        broken_by h1
        (broke_first h0 h1 h1 first_on first_does then_on then_does a false
        (broke_first h0 h1 h1 (came_in A now came) (came_in_effects A now came) (after_pass A now) (pass_effects A now) a unasked broke))

    module _ (took : Did h0 h1 (came_in A now came) (came_in_effects A now came) a b) where
      pub act_broke_passing : Broke h1 h2 (pass_effects A now) b → HasBroken now came h0 h2 a
      act_broke_passing broke =
          broken_by h2
          (broke_first h0 h2 h2 first_on first_does then_on then_does a false
          (did_broke h0 h1 h2 (came_in A now came) (came_in_effects A now came) (after_pass A now) (pass_effects A now) a b took broke))

      module _ (passed : Did h1 h2 (after_pass A now) (pass_effects A now) b c) where
        first_done : Did h0 h2 first_on first_does a c
        first_done =
            did_then h0 h1 h2 (came_in A now came) (came_in_effects A now came) (after_pass A now) (pass_effects A now) a b c took passed

        pub act_broke_telling : HasBroken now came h0 h2 a
        act_broke_telling =
            broken_by h2
            (broke_first h0 h2 h2 first_on first_does then_on then_does a false
            (did_and_broke h0 h2 first_on first_does a c first_done))

        module _ (told : Makes (after_report now) c d) where
          pub act_broke_renewing : Broke h2 h3 (renewal_effects now) d → HasBroken now came h0 h3 a
          act_broke_renewing broke =
              broken_by h3
              (did_broke h0 h2 h3 first_on first_does then_on then_does a c first_done
              (broke_behind h2 h3 (after_report now) (renewal_effects now) c d told broke))

          module _ (did : Did h2 h3 (after_renewal now) (renewal_effects now) d e) where
            all_but_desk : Did h0 h3 until_on (turned_effects A now came) a e
            all_but_desk =
                did_as h0 h3 (λ (how : (Written × Delivery) × Bool) l. then_on how.1 (first_on how.0 l))
                (λ (how : (Written × Delivery) × Bool) l. first_does how.0 l ++ then_does how.1 (first_on how.0 l)) until_on
                (turned_effects A now came) a e answered_by (λ x l. refl) (λ x l. refl)
                (did_then h0 h2 h3 first_on first_does then_on then_does a c e first_done
                (did_behind h2 h3 (after_report now) (after_renewal now) (renewal_effects now) c d e told did))

            pub act_broke_desk : HasBroken now came h0 h3 a
            act_broke_desk = did_and_broke h0 h3 until_on (turned_effects A now came) a e all_but_desk

            pub act_done : (f : Answerer S A R C) → Makes (after_desk A) e f → HasActed now came h0 h3 a f
            act_done f made =
                record {
                  how = all_but_desk.how;
                  ready = made.ready;
                  lives = λ l alive. made.goes (until_on all_but_desk.how l) (all_but_desk.lives l alive);
                  effects = all_but_desk.effects;
                }
